use Rattle.automizer_top.proofs.PartLoops.{ProvedSoFar}
use Rattle.automizer_top.proofs.parts.proved.Given as goal

abbrev pub invariant-loop-number : goal.invariant-loop-number
invariant-loop-number l = ProvedSoFar l.lowered.parts.items l.lowered.graphs.items l.text l.number l.left
