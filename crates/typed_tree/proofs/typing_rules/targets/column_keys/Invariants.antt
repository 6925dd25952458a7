use Rattle.std.proofs.Common.{◌≡◌, ◌++◌, map, drop}
use Rattle.typed_tree.specs.TypingRules.Ties.ColumnKey.{column_key}
use Rattle.typed_tree.proofs.typing_rules.targets.column_keys.Given as goal

abbrev pub invariant-loop-column : goal.invariant-loop-column
invariant-loop-column l = l.keys.items ++ map column_key (drop l.column-index l.columns) ≡ map column_key l.columns
