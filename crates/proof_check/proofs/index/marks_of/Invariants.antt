use Rattle.std.proofs.Common.{map}
use Rattle.std.specs.HashSet.{contains}
use Rattle.proof_names.specs.Outlines.{node}
use Rattle.proof_check.proofs.EntryLaws.{same_two}
use Rattle.proof_check.proofs.MarkLaws.{MarkedBelow}
use Rattle.proof_check.proofs.index.marks_of.Given as goal

abbrev pub invariant-loop-number : goal.invariant-loop-number
invariant-loop-number l = MarkedBelow (map node l.nodes) l.number (contains same_two l.marks)
