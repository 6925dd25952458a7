use Rattle.std.proofs.Common.{◌≡◌, ◌+◌, map, drop}
use Rattle.typed_tree.specs.TypedView as view
use Rattle.typed_tree.specs.TypingRules.Counts.{block_points}
use Rattle.boogie_run.proofs.boogie_points.counts.+places.Given as goal

abbrev pub invariant-block_points-loop-counted : goal.invariant-block_points-loop-counted
invariant-block_points-loop-counted l = l.count + block_points (map view.procedure l.procs) (view.statements (drop l.counted-index l.listed)) ≡ block_points (map view.procedure l.procs) (view.statements l.listed)
