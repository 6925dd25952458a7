use Rattle.std.proofs.Common.{◌≡◌, length}
use Rattle.farkas_check.specs.Walks.{goals_left}
use Rattle.farkas_check.proofs.walk.Walk.next_goal.Given as goal

abbrev pub invariant-loop-frame : goal.invariant-loop-frame
invariant-loop-frame l = goals_left l.self ≡ goals_left l.initial.self

abbrev pub decreases-loop-frame : goal.decreases-loop-frame
decreases-loop-frame l = length l.self.frames.items
