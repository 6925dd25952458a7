use Rattle.std.proofs.Common.{◌≡◌, ◌+◌, map, drop}
use Rattle.typed_tree.specs.TypedView as view
use Rattle.typed_tree.specs.TypingRules.Counts.{block_assertions}
use Rattle.boogie_run.proofs.boogie_points.counts.+assertions.Given as goal

abbrev pub invariant-block_assertions-loop-counted : goal.invariant-block_assertions-loop-counted
invariant-block_assertions-loop-counted l = l.count + block_assertions (map view.procedure l.procs) (view.statements (drop l.counted-index l.listed)) ≡ block_assertions (map view.procedure l.procs) (view.statements l.listed)
