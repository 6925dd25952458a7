use Rattle.automizer_top.proofs.PartLoops.{AreFirst}
use Rattle.automizer_top.proofs.parts.graphs_of.Given as goal

abbrev pub invariant-loop-part : goal.invariant-loop-part
invariant-loop-part l = AreFirst l.parts l.part-index l.graphs.items
