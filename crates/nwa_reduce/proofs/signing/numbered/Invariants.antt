use Rattle.std.proofs.Common.{take}
use Rattle.nwa_reduce.specs.Ties.Marks.{IsNumbered}
use Rattle.nwa_reduce.proofs.signing.numbered.Given as goal

abbrev pub invariant-loop-mark : goal.invariant-loop-mark
invariant-loop-mark l = IsNumbered l.initial.table.keys l.table.keys (take l.mark-index l.marks) l.numbers.items
