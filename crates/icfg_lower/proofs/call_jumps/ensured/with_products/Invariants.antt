use Rattle.std.proofs.Common.{◌≡◌, ◌≤◌, ◌-◌, ◌++◌, map}
use Rattle.lowered_graph.specs.LoweredSteps.Edges.{whole_columns}
use Rattle.icfg_lower.specs.CallJumps.Ties.Stands.{stand_of, result_stand}
use Rattle.icfg_lower.proofs.call_jumps.ensured.with_products.Given as goal

abbrev pub invariant-loop-made : goal.invariant-loop-made
invariant-loop-made l = (l.made ≤ l.count) × (map stand_of l.all.items ≡ map stand_of l.fn.locals.items ++ map result_stand (whole_columns l.first l.made))

abbrev pub decreases-loop-made : goal.decreases-loop-made
decreases-loop-made l = l.count - l.made
