use Rattle.std.proofs.Common.{◌∙◌, ap, sym, refl}
use Rattle.std.proofs.lemmas.Bool.{false≢true}
use Rattle.nwa_base.specs.Words.{are_matched}
use Rattle.nwa_base.proofs.WayLemmas.{matched_by_counting}
use Rattle.nwa_base.proofs.spelling.word.Goals as goal

pub returns-then-are_matched-clause-matched : goal.returns-then-are_matched-clause-matched
returns-then-are_matched-clause-matched c =
    let e = c.are_matched.ensures ∙ ap (are_matched 0) c.as_slice.ensures.value in
    (λ _. (matched_by_counting c.args.letters.items).0 (sym e ∙ c.if-are_matched.true), λ _. refl)

pub returns-else-are_matched-clause-matched : goal.returns-else-are_matched-clause-matched
returns-else-are_matched-clause-matched c =
    let e = c.are_matched.ensures ∙ ap (are_matched 0) c.as_slice.ensures.value in
    (λ h. absurd (false≢true h), λ h. sym c.if-are_matched.false ∙ e ∙ (matched_by_counting c.args.letters.items).1 h)
