use Rattle.std.proofs.Common.{◌≡◌, ◌≤◌, ◌+◌, map, length, drop}
use Rattle.typed_tree.specs.TypedView as view
use Rattle.boogie_run.specs.BoogiePoints.Actions.{free_conditions}
use Rattle.boogie_run.proofs.boogie_points.counts.granted.Given as goal

abbrev pub invariant-loop-said : goal.invariant-loop-said
invariant-loop-said l = record {
  within : l.count ≤ l.said-index;
  counted : l.count + length (free_conditions (map view.specification (drop l.said-index l.specs))) ≡ length (free_conditions (map view.specification l.specs));
}
