use Rattle.std.proofs.Common.{◌≡◌, map, drop}
use Rattle.std.specs.List.{list_all}
use Rattle.typed_tree.specs.TypedView as view
use Rattle.typed_tree.specs.TypingRules.Counts.{columns_fit}
use Rattle.typed_tree.proofs.typing_rules.counts.all_columns_fit.Given as goal

abbrev pub invariant-loop-counted : goal.invariant-loop-counted
invariant-loop-counted l = list_all (columns_fit l.globals) (map view.procedure (drop l.counted-index l.procs)) ≡ list_all (columns_fit l.globals) (map view.procedure l.procs)
