use Rattle.std.proofs.Common.{◌≡◌, ◌≤◌, ◌+◌, ◌^◌, map, drop}
use Rattle.typed_tree.specs.TypedView as view
use Rattle.typed_tree.specs.TypingRules.Ties.CappedCounts.{capped, specification_places}
use Rattle.typed_tree.proofs.typing_rules.counts.specifications.Given as goal

abbrev pub invariant-loop-said : goal.invariant-loop-said
invariant-loop-said l = record {
  within : l.count ≤ 2 ^ 32;
  counted : capped (l.count + specification_places (map view.specification (drop l.said-index l.specs))) ≡ capped (specification_places (map view.specification l.specs));
}
