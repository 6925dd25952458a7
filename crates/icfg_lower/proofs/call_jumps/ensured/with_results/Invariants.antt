use Rattle.std.proofs.Common.{◌≡◌, ◌++◌, map, take}
use Rattle.lowered_graph.specs.LoweredSteps.Edges.{results_at}
use Rattle.icfg_lower.specs.CallJumps.Ties.Stands.{stand_of, result_stand}
use Rattle.icfg_lower.proofs.call_jumps.ensured.with_results.Given as goal

abbrev pub invariant-loop-place : goal.invariant-loop-place
invariant-loop-place l =
    map stand_of l.locals.items ≡ map stand_of l.fn.args.items ++ map result_stand (results_at l.base l.written (take l.place l.targets) (take l.place l.results))
