use Rattle.std.proofs.Common.{◌≡◌, ◌≤◌, ◌+◌, ◌^◌, map, drop}
use Rattle.typed_tree.specs.TypedView as view
use Rattle.typed_tree.specs.TypingRules.Counts.{plain_invariants}
use Rattle.typed_tree.specs.TypingRules.Ties.CappedCounts.{capped}
use Rattle.typed_tree.proofs.typing_rules.counts.invariants.Given as goal

abbrev pub invariant-loop-condition : goal.invariant-loop-condition
invariant-loop-condition l = record {
  within : l.count ≤ 2 ^ 32;
  counted : capped (l.count + plain_invariants (map view.invariant (drop l.condition-index l.conditions))) ≡ capped (plain_invariants (map view.invariant l.conditions));
}
