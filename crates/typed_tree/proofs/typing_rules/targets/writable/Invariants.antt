use Rattle.std.proofs.Common.{◌≡◌, drop}
use Rattle.std.specs.List.{list_all}
use Rattle.typed_tree.specs.TypingRules.Rules.{is_writable}
use Rattle.typed_tree.specs.TypingRules.Ties.Judged.{context}
use Rattle.typed_tree.proofs.typing_rules.targets.writable.Given as goal

abbrev pub invariant-loop-column : goal.invariant-loop-column
invariant-loop-column l = list_all (is_writable (context l.frame)) (drop l.column-index l.columns) ≡ list_all (is_writable (context l.frame)) l.columns
