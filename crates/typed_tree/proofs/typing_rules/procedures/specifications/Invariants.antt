use Rattle.std.proofs.Common.{◌≡◌, map, drop}
use Rattle.std.specs.List.{list_all}
use Rattle.typed_tree.specs.TypedView as view
use Rattle.typed_tree.specs.TypingRules.Rules.{is_specification}
use Rattle.typed_tree.proofs.typing_rules.procedures.specifications.Given as goal

abbrev pub invariant-loop-said : goal.invariant-loop-said
invariant-loop-said l =
    list_all (is_specification l.globals (view.procedure l.checked)) (map view.specification (drop l.said-index l.checked.specs.items))
    ≡ list_all (is_specification l.globals (view.procedure l.checked)) (map view.specification l.checked.specs.items)
