use Rattle.std.proofs.Common.{◌≡◌, map, drop}
use Rattle.std.specs.List.{list_all}
use Rattle.typed_tree.specs.Scope.{seen}
use Rattle.typed_tree.specs.TypedView as view
use Rattle.typed_tree.specs.TypingRules.Rules.{is_condition}
use Rattle.typed_tree.proofs.typing_rules.values.axioms.Given as goal

abbrev pub invariant-loop-axiom : goal.invariant-loop-axiom
invariant-loop-axiom l = list_all (is_condition (seen l.scope)) (map view.expression (drop l.axiom-index l.axioms)) ≡ list_all (is_condition (seen l.scope)) (map view.expression l.axioms)
