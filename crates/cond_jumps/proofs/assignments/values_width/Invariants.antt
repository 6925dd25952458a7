use Rattle.std.proofs.Common.{ℕ, ◌+◌, ◌≤◌, map, length, drop}
use Rattle.typed_tree.specs.TypedView.{expression}
use Rattle.cond_jumps.specs.Frames.{frame_environment}
use Rattle.cond_jumps.specs.Paths.{assigns}
use Rattle.cond_jumps.specs.Ties.WidthView.{IsWidth}
use Rattle.cond_jumps.proofs.assignments.values_width.Given as goal

abbrev pub invariant-loop-place : goal.invariant-loop-place
invariant-loop-place l =
    (l.place ≤ length l.values) × ((n first : ℕ) → length l.frame.columns.items ≤ n → first + length l.values ≤ n →
    IsWidth (assigns (frame_environment l.frame.columns.items) (first + l.place) (map expression (drop l.place l.values))) n l.all)

abbrev pub decreases-loop-place : goal.decreases-loop-place
decreases-loop-place l = l.place
