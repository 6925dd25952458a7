use Rattle.std.proofs.Common.{◌≡◌, length, drop}
use lib.Pointwise.{pointwise}
use Rattle.explained_proof.specs.FactExpressions.Trees.{same_node}
use Rattle.explained_proof.proofs.fact_expressions.equality.same_nodes.Given as goal

abbrev pub invariant-loop-i : goal.invariant-loop-i
invariant-loop-i l = record {
  lengths : length l.a ≡ length l.b;
  same : pointwise same_node (drop l.i l.a) (drop l.i l.b) ≡ pointwise same_node l.a l.b;
}
