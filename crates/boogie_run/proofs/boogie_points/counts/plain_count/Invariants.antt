use Rattle.std.proofs.Common.{◌≡◌, ◌+◌, map, drop}
use Rattle.typed_tree.specs.TypedView as view
use Rattle.typed_tree.specs.TypingRules.Counts.{plain_invariants}
use Rattle.boogie_run.proofs.boogie_points.counts.plain_count.Given as goal

abbrev pub invariant-loop-condition : goal.invariant-loop-condition
invariant-loop-condition l = l.count + plain_invariants (map view.invariant (drop l.condition-index l.conditions)) ≡ plain_invariants (map view.invariant l.conditions)
