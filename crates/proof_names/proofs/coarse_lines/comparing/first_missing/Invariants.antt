use Rattle.std.proofs.Common.{◌≡◌, map, drop}
use Rattle.std.specs.List.{position_from}
use Rattle.proof_form.specs.Lines.{triple}
use Rattle.proof_names.specs.CoarseLines.CoarseLetters.{letter_named, lacks_line}
use Rattle.proof_names.proofs.coarse_lines.comparing.first_missing.Given as goal

abbrev pub invariant-loop-place : goal.invariant-loop-place
invariant-loop-place l =
    position_from (λ t. lacks_line l.icfg l.coarse (letter_named t)) l.place (map triple (drop l.place l.triples)) ≡ position_from (λ t. lacks_line l.icfg l.coarse (letter_named t)) 0 (map triple l.triples)
