use Rattle.automizer_top.proofs.PartLoops.{NamesLater}
use Rattle.automizer_top.proofs.parts.part_in.Given as goal

abbrev pub invariant-loop-number : goal.invariant-loop-number
invariant-loop-number l = NamesLater l.parts l.text l.number
