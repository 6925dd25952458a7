use Rattle.std.proofs.Common.{◌≡◌, map, drop}
use Rattle.std.specs.List.{list_all}
use Rattle.typed_tree.specs.Scope.{seen}
use Rattle.typed_tree.specs.TypedView as view
use Rattle.typed_tree.specs.TypingRules.Rules.{is_invariant}
use Rattle.typed_tree.proofs.typing_rules.values.invariants.Given as goal

abbrev pub invariant-loop-invariant : goal.invariant-loop-invariant
invariant-loop-invariant l = list_all (is_invariant (seen l.scope)) (map view.invariant (drop l.invariant-index l.invariants)) ≡ list_all (is_invariant (seen l.scope)) (map view.invariant l.invariants)
