use Rattle.std.proofs.Common.{◌≡◌, ◌<◌, ◌+◌, ◌^◌, map, drop}
use Rattle.typed_tree.specs.TypedView as view
use Rattle.typed_tree.specs.TypingRules.Counts.{block_assertions, block_points}
use Rattle.boogie_run.specs.BoogiePoints.Points.{found_block}
use Rattle.boogie_run.specs.BoogiePoints.View.{stack_of}
use Rattle.boogie_run.proofs.boogie_points.seeking.+seeking.Given as goal

abbrev pub invariant-seek-loop-number : goal.invariant-seek-loop-number
invariant-seek-loop-number l = record {
  found : found_block (map view.procedure l.procs) l.label (view.statements l.block) l.fn.marks.of_loop l.fn.marks.id l.fn.marks.at (stack_of l.fn.todo.items)
      ≡ found_block (map view.procedure l.procs) l.label (view.statements (drop l.number l.block)) l.here.of_loop l.here.id l.here.at (stack_of l.fn.todo.items);
  same : stack_of l.todo.items ≡ stack_of l.fn.todo.items;
  assertions : l.here.id + block_assertions (map view.procedure l.procs) (view.statements (drop l.number l.block)) < 2 ^ 32;
  points : l.here.at + block_points (map view.procedure l.procs) (view.statements (drop l.number l.block)) < 2 ^ 32;
}
