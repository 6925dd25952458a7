use Rattle.std.proofs.Common.{◌+◌, ◌≤◌, map, length, drop}
use Rattle.typed_tree.specs.TypedView.{expression}
use Rattle.cond_jumps.specs.Frames.{frame_environment}
use Rattle.cond_jumps.specs.ListView.{IsPlanList}
use Rattle.cond_jumps.specs.Paths.{assigns}
use Rattle.cond_jumps.proofs.assignments.values_list.Given as goal

abbrev pub invariant-loop-place : goal.invariant-loop-place
invariant-loop-place l =
    (l.place ≤ length l.values) × IsPlanList (assigns (frame_environment l.frame.columns.items) (l.first + l.place) (map expression (drop l.place l.values))) l.base l.all

abbrev pub decreases-loop-place : goal.decreases-loop-place
decreases-loop-place l = l.place
