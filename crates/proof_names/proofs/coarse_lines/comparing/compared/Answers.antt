use Rattle.std.proofs.Common.{◌≡◌, None, sym, ap, ◌∙◌}
use Rattle.std.specs.List.{position_from}
use Rattle.proof_names.specs.CoarseLines.CoarseLetters.{letter_named, lacks_line, first_wrong, first_missing}
use Rattle.proof_names.proofs.CoarseLines.ToldLaws.{right_is_letters}
use Rattle.proof_names.proofs.coarse_lines.comparing.compared.Goals as goal

pub returns-in-None-clause-same : goal.returns-in-None-clause-same
returns-in-None-clause-same c =
    let g = c.args.icfg.now in
    let coarse = c.args.coarse.now in
    let a = c.args.proof.now in
    let right : first_wrong g coarse a ≡ None = sym c.in_ok-place.ensures ∙ c.in_default.is in
    let all : first_missing g coarse a ≡ None =
    sym (c.in_ok-place-2.ensures ∙ ap (λ ts. position_from (λ t. lacks_line g coarse (letter_named t)) 0 ts) c.triples.ensures.value) ∙ c.in-None.is in
    right_is_letters g coarse a right all
