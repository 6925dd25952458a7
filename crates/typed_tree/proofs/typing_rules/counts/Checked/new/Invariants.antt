use Rattle.std.proofs.Common.{◌≡◌, ◌++◌, map, drop}
use Rattle.typed_tree.specs.TypedView as view
use Rattle.typed_tree.specs.TypingRules.Ties.CappedCounts.{checked_count}
use Rattle.typed_tree.proofs.typing_rules.counts.Checked.new.Given as goal

abbrev pub invariant-loop-counted : goal.invariant-loop-counted
invariant-loop-counted l = l.counts.items ++ map checked_count (map view.procedure (drop l.counted-index l.procs)) ≡ map checked_count (map view.procedure l.procs)
