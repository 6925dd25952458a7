use Rattle.std.proofs.Common.{◌≡◌, map, take}
use Rattle.std.specs.Prelude.{filter}
use Rattle.std.specs.List.{list_all}
use Rattle.explained_proof.specs.FactExpressions.Facts as facts
use Rattle.explained_proof.specs.FactExpressions.Views as view
use Rattle.explained_proof.proofs.fact_expressions.disjunctions.shared_rows.Given as goal

abbrev pub invariant-loop-row : goal.invariant-loop-row
invariant-loop-row l = view.rows l.list.items ≡ filter (λ r. list_all (λ d. facts.is_row d.rows r) (map view.facts l.facts)) (view.rows (take l.row-index l.rows))
