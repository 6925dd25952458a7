use Rattle.std.proofs.Common.{take}
use Rattle.proof_names.proofs.CoarseLines.MarkLaws.{IsLined}
use Rattle.proof_names.proofs.coarse_lines.comparing.lined_letters.Given as goal

abbrev pub invariant-loop-letter : goal.invariant-loop-letter
invariant-loop-letter l = IsLined l.lined.items l.count (take l.letter-index l.coarse)
