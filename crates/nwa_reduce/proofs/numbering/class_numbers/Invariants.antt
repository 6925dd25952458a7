use Rattle.std.proofs.Common.{length}
use Rattle.nwa_reduce.proofs.NumberingLemmas.{IsNumbering}
use Rattle.nwa_reduce.proofs.numbering.class_numbers.Given as goal

abbrev pub invariant-loop-state : goal.invariant-loop-state
invariant-loop-state l = IsNumbering l.of.items l.state (length l.found.keys)
