use Rattle.std.proofs.Common.{◌≡◌, ◌≤◌, ◌+◌, ◌^◌, map, drop}
use Rattle.typed_tree.specs.TypedView as view
use Rattle.typed_tree.specs.TypingRules.Ties.CappedCounts.{capped, block_places}
use Rattle.typed_tree.proofs.typing_rules.counts.+counts.Given as goal

abbrev pub invariant-block-loop-counted : goal.invariant-block-loop-counted
invariant-block-loop-counted l = record {
  within : l.count ≤ 2 ^ 32;
  counted : capped (l.count + block_places (map view.procedure l.checked) (view.statements (drop l.counted-index l.listed))) ≡ capped (block_places (map view.procedure l.checked) (view.statements l.listed));
}
