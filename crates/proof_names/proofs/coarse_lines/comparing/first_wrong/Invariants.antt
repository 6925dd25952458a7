use Rattle.std.proofs.Common.{◌≡◌, false, drop, get_or}
use Rattle.proof_names.specs.CoarseLines.CoarseLetters.{first_wrong_from}
use Rattle.proof_names.proofs.coarse_lines.comparing.first_wrong.Given as goal

abbrev pub invariant-loop-place : goal.invariant-loop-place
invariant-loop-place l = first_wrong_from (λ n. get_or l.marks n false) l.low l.place (drop l.place l.coarse) ≡ first_wrong_from (λ n. get_or l.marks n false) 0 0 l.coarse
