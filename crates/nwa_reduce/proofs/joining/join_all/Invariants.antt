use Rattle.std.proofs.Common.{take}
use Rattle.nwa_reduce.specs.Ties.Levels.{JoinsExits}
use Rattle.nwa_reduce.proofs.joining.join_all.Given as goal

abbrev pub invariant-loop-exit : goal.invariant-loop-exit
invariant-loop-exit l = JoinsExits l.nwa l.callers (take l.exit-index l.inner) l.initial.joins.items l.joins.items
