use Rattle.std.proofs.Common.{map}
use Rattle.boogie_tree.specs.View as view
use Rattle.explained_proof.proofs.BuiltExpressions.Chains.{Grouping}
use Rattle.explained_proof.proofs.built_expressions.building.in_groups.Given as goal

abbrev pub invariant-loop-part : goal.invariant-loop-part
invariant-loop-part l =
    Grouping l.op (map view.expression l.fn.parts.items) (map view.expression l.groups.items) (map view.expression l.group.items) (map view.expression l.part-iterator.rest.items)
