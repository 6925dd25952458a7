use Rattle.std.proofs.Common.{◌≡◌, ℕ, Bool, List, length}
use Rattle.typed_tree.specs.TypedTree.{TypedProcedure}
use Rattle.typed_tree.specs.TypedView as view
use Rattle.typed_tree.specs.TypingRules.Counts.{block_assertions, block_points}
use Rattle.boogie_run.specs.BoogiePoints.Points.{Todo, Point, unless_ended}
use Rattle.boogie_run.proofs.boogie_points.blocks.past_labels.Given as goal

abbrev pub invariant-loop-first : goal.invariant-loop-first
invariant-loop-first l = record {
  settled : (of_loop : Bool) (id at : ℕ) (under : List Todo) (after : Point) →
      unless_ended (view.statements l.fn.list) of_loop id at under after ≡ unless_ended (view.statements l.rest) of_loop id at under after;
  assertions : (procs : List TypedProcedure) → block_assertions procs (view.statements l.rest) ≡ block_assertions procs (view.statements l.fn.list);
  points : (procs : List TypedProcedure) → block_points procs (view.statements l.rest) ≡ block_points procs (view.statements l.fn.list);
}

abbrev pub decreases-loop-first : goal.decreases-loop-first
decreases-loop-first l = length l.rest
