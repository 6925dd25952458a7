use Rattle.std.proofs.Common.{◌≡◌, ◌∙◌, ℕ, List, Some, sym, subst, ap}
use Rattle.std.specs.Prelude.{slice_get}
use Rattle.letter_acts.specs.Acts.{back_act, plain_act}
use Rattle.letter_acts.specs.Invariant.{alphabet_of, BackIsActedFrom}
use Rattle.proof_names.proofs.WidthLaws.{acted_at}
use Rattle.proof_names.proofs.triples.width.Goals as goal

pub return_width-requires : goal.return_width-requires
return_width-requires c =
    let e : slice_get c.args.icfg.now.acts c.args.letter ≡ Some (back_act c.in-Some-Back.call c.in-Some-Back.targets.items) =
    sym c.in-Some-Back.ensures.value ∙ ap (λ a. Some (plain_act a)) c.in-Some-Back.field-0-is in
    subst (λ (ts : List ℕ). BackIsActedFrom (alphabet_of c.args.icfg.now) ts (slice_get c.args.icfg.now.acts c.in-Some-Back.call)) (sym c.deref.ensures.value)
    (acted_at c.args.icfg.now c.args.letter (back_act c.in-Some-Back.call c.in-Some-Back.targets.items) c.act.ensures.valid e)
