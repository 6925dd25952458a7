use Rattle.std.proofs.Common.{◌≡◌, ◌+◌, ◌*◌, ◌^◌, ◌<◌, ◌≤◌, drop}
use Rattle.explained_proof.specs.FactExpressions.Trees.{tree_length}
use Rattle.explained_proof.proofs.fact_expressions.splitting.first_length.Given as goal

abbrev pub invariant-loop-number : goal.invariant-loop-number
invariant-loop-number l = record {
  some : 0 < l.open;
  bounded : l.open ≤ 1 + l.number * 2 ^ 32;
  value : l.number + tree_length l.open (drop l.number l.nodes) ≡ tree_length 1 l.nodes;
}
