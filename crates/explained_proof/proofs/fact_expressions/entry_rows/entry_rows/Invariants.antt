use Rattle.std.proofs.Common.{◌≡◌, map, take}
use Rattle.explained_proof.specs.RowExpressions.Views as scopes
use Rattle.explained_proof.specs.FactExpressions.EntryRows as spec
use Rattle.explained_proof.specs.FactExpressions.Views as view
use Rattle.explained_proof.proofs.fact_expressions.entry_rows.entry_rows.Given as goal

abbrev pub invariant-loop-given : goal.invariant-loop-given
invariant-loop-given l = l.list.items ≡ map (spec.entry_row (scopes.scope l.scope)) (view.rows (take l.given-index l.rows))
