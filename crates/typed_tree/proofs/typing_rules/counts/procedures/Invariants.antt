use Rattle.std.proofs.Common.{◌≡◌, ◌≤◌, ◌+◌, ◌^◌, map, drop}
use Rattle.typed_tree.specs.TypedView as view
use Rattle.typed_tree.specs.TypingRules.Counts.{all_places}
use Rattle.typed_tree.specs.TypingRules.Ties.CappedCounts.{capped}
use Rattle.typed_tree.proofs.typing_rules.counts.procedures.Given as goal

abbrev pub invariant-loop-counted : goal.invariant-loop-counted
invariant-loop-counted l = record {
  within : l.count ≤ 2 ^ 32;
  counted : capped (l.count + all_places (map view.procedure l.checked) (map view.procedure (drop l.counted-index l.procs))) ≡ capped (all_places (map view.procedure l.checked) (map view.procedure l.procs));
}
