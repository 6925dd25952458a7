use Rattle.std.proofs.Common.{◌≡◌, false, length, get_or, sym, ap, ◌∙◌}
use Rattle.std.proofs.lemmas.Result.{IfOk-weaker}
use Rattle.proof_names.specs.CoarseLines.CoarseLetters.{is_told}
use Rattle.proof_names.proofs.CoarseLines.MarkLaws.{as_many, letters_are}
use Rattle.proof_names.proofs.CoarseLines.ToldLaws.{told_is_short}
use Rattle.proof_names.proofs.coarse_lines.letters.coarse_letters.Goals as goal

pub marked_places-requires : goal.marked_places-requires
marked_places-requires c = λ n h.
    let g = c.args.icfg.now in
    let told : get_or c.deref.result.now n false ≡ is_told g c.args.proof.now.triples n =
    ap (λ ms. get_or ms n false) c.deref.ensures.value ∙ c.in_ok-told.ensures.told n ∙ ap (λ ts. is_told g ts n) c.triples.ensures.value in
    told_is_short g c.args.proof.now.triples n (sym told ∙ h)

pub returns : goal.returns
returns c =
    let g = c.args.icfg.now in
    let size : length c.deref.result.now ≡ length g.marks =
    ap length c.deref.ensures.value ∙ c.in_ok-told.ensures.size ∙ as_many c.acts-acts.result.now g.acts g.marks c.acts-acts.ensures.value c.acts-acts.ensures.marks in
    IfOk-weaker c.marked_places.result _ _
    (λ v h. h ∙ letters_are g c.args.proof.now c.deref.result.now size
    (λ n. ap (λ ms. get_or ms n false) c.deref.ensures.value ∙ c.in_ok-told.ensures.told n ∙ ap (λ ts. is_told g ts n) c.triples.ensures.value))
    c.marked_places.ensures
