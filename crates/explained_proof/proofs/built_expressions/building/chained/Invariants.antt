use Rattle.std.proofs.Common.{map, length}
use Rattle.boogie_tree.specs.View as view
use Rattle.explained_proof.proofs.BuiltExpressions.Chains.{Chaining}
use Rattle.explained_proof.proofs.built_expressions.building.chained.Given as goal

abbrev pub invariant-loop-parts : goal.invariant-loop-parts
invariant-loop-parts l = Chaining l.op (map view.expression l.fn.parts.items) (map view.expression l.parts.items)

abbrev pub decreases-loop-parts : goal.decreases-loop-parts
decreases-loop-parts l = length l.parts.items
