use Rattle.std.proofs.Common.{◌≡◌, not, take}
use Rattle.std.specs.Prelude.{filter}
use Rattle.explained_proof.specs.FactExpressions.Facts as facts
use Rattle.explained_proof.specs.FactExpressions.Views as view
use Rattle.explained_proof.proofs.fact_expressions.disjunctions.other_rows.Given as goal

abbrev pub invariant-loop-row : goal.invariant-loop-row
invariant-loop-row l = view.rows l.list.items ≡ filter (λ r. not (facts.is_row (view.rows l.shared) r)) (view.rows (take l.row-index l.rows))
