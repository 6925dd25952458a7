use Rattle.std.proofs.Common.{map}
use Rattle.boogie_tree.specs.View as tree
use Rattle.explained_proof.specs.BuiltExpressions.Views as view
use Rattle.explained_proof.proofs.BuiltExpressions.Conjunctions.{Alternatives}
use Rattle.explained_proof.proofs.built_expressions.members.alternatives.Given as goal

abbrev pub invariant-loop-other : goal.invariant-loop-other
invariant-loop-other l = Alternatives (map view.conjuncts l.fn.others.items) (map tree.expression l.said.items) (map view.conjuncts l.other-iterator.rest.items)
