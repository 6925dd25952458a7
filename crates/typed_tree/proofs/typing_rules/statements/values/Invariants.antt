use Rattle.std.proofs.Common.{◌≡◌, map, drop}
use Rattle.typed_tree.specs.Scope.{seen}
use Rattle.typed_tree.specs.TypedView as view
use Rattle.typed_tree.specs.TypingRules.Rules.{values_agree}
use Rattle.typed_tree.proofs.typing_rules.statements.values.Given as goal

abbrev pub invariant-loop-index : goal.invariant-loop-index
invariant-loop-index l =
    values_agree (seen l.frame.scope) (drop l.index l.columns) (map view.expression (drop l.index l.values)) ≡ values_agree (seen l.frame.scope) l.columns (map view.expression l.values)
