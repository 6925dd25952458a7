use Rattle.std.proofs.Common.{◌≡◌, ◌++◌, take, drop}
use Rattle.explained_proof.specs.FactExpressions.Facts as spec
use Rattle.explained_proof.specs.FactExpressions.Views as view
use Rattle.explained_proof.proofs.fact_expressions.conjunctions.add_row.Given as goal

abbrev pub invariant-loop-number : goal.invariant-loop-number
invariant-loop-number l = record {
  same : l.rows.items ≡ l.initial.rows.items;
  value : spec.with_row l.row (view.rows l.rows.items) ≡ view.rows (take l.number l.rows.items) ++ spec.with_row l.row (view.rows (drop l.number l.rows.items));
}
