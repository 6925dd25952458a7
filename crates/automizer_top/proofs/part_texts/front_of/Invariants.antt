use Rattle.std.proofs.Common.{◌-◌, length}
use Rattle.automizer_top.proofs.PartLines.{Passed}
use Rattle.automizer_top.proofs.part_texts.front_of.Given as goal

abbrev pub invariant-loop-at : goal.invariant-loop-at
invariant-loop-at l = Passed l.text l.at l.lines

abbrev pub decreases-loop-at : goal.decreases-loop-at
decreases-loop-at l = length l.text - l.at
