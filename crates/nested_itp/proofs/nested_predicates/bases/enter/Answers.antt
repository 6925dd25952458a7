use Rattle.std.proofs.Common.{◌≡◌, ◌∙◌, [], ◌∷◌, List, ℕ, Option, reverse, ap, sym, subst}
use Rattle.std.proofs.lemmas.List.{reverse-append}
use Rattle.nwa_base.specs.declared.letters.Kind.{Kind}
use Rattle.letter_acts.specs.Frames.{Columns}
use Rattle.letter_acts.specs.Acts.{act_of, frame_of}
use Rattle.letter_acts.specs.Invariant.{alphabet_of}
use Rattle.nested_itp.specs.declared.nested_predicates.bases.Base.{Base}
use Rattle.nested_itp.specs.NestedPredicates.Positions.{known_columns, callee_of}
use Rattle.nested_itp.specs.NestedPredicates.Bases.{IsEntered, Enters}
use Rattle.nested_itp.proofs.nested_predicates.bases.enter.Goals as goal

pub returns-in_ok-push-in-Call-clause-value : goal.returns-in_ok-push-in-Call-clause-value
returns-in_ok-push-in-Call-clause-value c =
    let base : Base = c.in_ok-base-in-Call.base in
    let frame : Columns = frame_of (alphabet_of c.args.icfg.now) (callee_of (act_of (alphabet_of c.args.icfg.now) c.args.letter)) in
    let known : List (Option ℕ) = known_columns frame c.args.entry.now c.args.before.now in
    let f : c.columns-callee.result.now ≡ frame = c.columns-callee.ensures.value ∙ ap (frame_of (alphabet_of c.args.icfg.now)) c.callee_of.ensures in
    subst (λ (k : Kind). Enters k c.args.returns known c.args.running.now (reverse c.args.frames.now.items) (reverse c.push.new.self.items)) (sym c.in-Call.is) (
      base,
      ap reverse c.in_ok-push-in-Call.ensures.items ∙ reverse-append c.args.frames.now.items (base ∷ []),
      subst (λ (x : Columns). IsEntered c.args.returns (known_columns x c.args.entry.now c.args.before.now) c.args.running.now base) f c.in_ok-base-in-Call.ensures,
    )
