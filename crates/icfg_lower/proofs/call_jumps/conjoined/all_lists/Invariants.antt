use Rattle.std.proofs.Common.{◌≤◌, length, map, drop}
use Rattle.typed_tree.specs.TypedView.{expression}
use Rattle.cond_jumps.specs.Frames.{frame_environment}
use Rattle.cond_jumps.specs.ListView.{IsPlanList}
use Rattle.lowered_graph.specs.LoweredSteps.Edges.{all_hold}
use Rattle.icfg_lower.proofs.call_jumps.conjoined.all_lists.Given as goal

abbrev pub invariant-loop-place : goal.invariant-loop-place
invariant-loop-place l =
    (l.place ≤ length l.conds) × IsPlanList (all_hold (frame_environment l.frame.columns.items) (map expression (drop l.place l.conds))) l.base l.all

abbrev pub decreases-loop-place : goal.decreases-loop-place
decreases-loop-place l = l.place
