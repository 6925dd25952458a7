use Rattle.std.proofs.Common.{◌≡◌, map, drop}
use Rattle.typed_tree.specs.Scope.{seen}
use Rattle.typed_tree.specs.TypedView as view
use Rattle.typed_tree.specs.TypingRules.Rules.{arguments_agree}
use Rattle.typed_tree.proofs.typing_rules.calls.arguments.Given as goal

abbrev pub invariant-loop-index : goal.invariant-loop-index
invariant-loop-index l =
    arguments_agree (seen l.frame.scope) (drop l.index l.params) (map view.expression (drop l.index l.values)) ≡ arguments_agree (seen l.frame.scope) l.params (map view.expression l.values)
