use Rattle.std.proofs.Common.{◌≡◌, map, drop}
use Rattle.typed_tree.specs.TypedView as view
use Rattle.typed_tree.specs.TypingRules.Shape.{are_arguments}
use Rattle.typed_tree.proofs.typing_rules.arguments.are_arguments.Given as goal

abbrev pub invariant-loop-index : goal.invariant-loop-index
invariant-loop-index l = are_arguments (drop l.index l.params) (map view.expression (drop l.index l.arguments)) ≡ are_arguments l.params (map view.expression l.arguments)
