use Rattle.std.proofs.Common.{◌≡◌, map, drop}
use Rattle.std.specs.Prelude.{slice_get}
use Rattle.typed_tree.specs.TypedView as view
use Rattle.boogie_run.specs.BoogiePoints.Actions.{free_conditions}
use Rattle.boogie_run.proofs.boogie_points.conditions.free_condition.Given as goal

abbrev pub invariant-loop-said : goal.invariant-loop-said
invariant-loop-said l = slice_get (free_conditions (map view.specification (drop l.said-index l.specs))) l.left ≡ slice_get (free_conditions (map view.specification l.specs)) l.number
