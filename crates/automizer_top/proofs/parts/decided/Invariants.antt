use Rattle.automizer_top.proofs.PartLoops.{SafeSoFar}
use Rattle.automizer_top.proofs.parts.decided.Given as goal

abbrev pub invariant-loop-number : goal.invariant-loop-number
invariant-loop-number g l = SafeSoFar l.limits l.lowered.parts.items l.lowered.graphs.items l.number l.text.items l.races.items
