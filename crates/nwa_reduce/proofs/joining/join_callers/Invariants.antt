use Rattle.std.proofs.Common.{take}
use Rattle.nwa_reduce.specs.Ties.Levels.{JoinsCallers}
use Rattle.nwa_reduce.proofs.joining.join_callers.Given as goal

abbrev pub invariant-loop-before : goal.invariant-loop-before
invariant-loop-before l = JoinsCallers (take l.before-index l.callers) l.exit l.initial.joins.items l.joins.items
