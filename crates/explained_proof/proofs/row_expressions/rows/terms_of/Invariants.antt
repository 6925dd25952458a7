use Rattle.std.proofs.Common.{◌≡◌, take}
use Rattle.std.specs.List.{AllByRecursion}
use Rattle.lin_rows.specs.Rows.{IsCoefficient}
use Rattle.explained_proof.specs.RowExpressions.Rows as spec
use Rattle.explained_proof.specs.RowExpressions.Views as view
use Rattle.explained_proof.proofs.row_expressions.rows.terms_of.Given as goal

abbrev pub invariant-loop-term : goal.invariant-loop-term
invariant-loop-term l = record {
  value : l.list.items ≡ spec.terms_of (view.scope l.scope) l.truths (take l.term-index l.terms);
  valid : AllByRecursion IsCoefficient l.list.items;
}
