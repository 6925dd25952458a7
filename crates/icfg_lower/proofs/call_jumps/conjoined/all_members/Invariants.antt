use Rattle.std.proofs.Common.{◌≤◌, length, map, drop}
use Rattle.typed_tree.specs.TypedView.{expression}
use Rattle.cond_jumps.specs.Frames.{frame_environment}
use Rattle.lowered_graph.specs.LoweredSteps.Edges.{all_hold}
use Rattle.icfg_lower.specs.CallJumps.Ties.Conjoined.{HasMembers}
use Rattle.icfg_lower.proofs.call_jumps.conjoined.all_members.Given as goal

abbrev pub invariant-loop-place : goal.invariant-loop-place
invariant-loop-place l =
    (l.place ≤ length l.conds) × HasMembers (all_hold (frame_environment l.frame.columns.items) (map expression (drop l.place l.conds))) (length l.frame.columns.items) l.all

abbrev pub decreases-loop-place : goal.decreases-loop-place
decreases-loop-place l = l.place
