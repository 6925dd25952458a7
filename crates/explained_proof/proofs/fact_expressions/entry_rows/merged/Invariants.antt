use Rattle.std.proofs.Common.{◌≡◌, [], drop}
use Rattle.explained_proof.specs.FactExpressions.EntryRows as spec
use Rattle.explained_proof.specs.FactExpressions.Views as view
use Rattle.explained_proof.proofs.fact_expressions.entry_rows.merged.Given as goal

abbrev pub invariant-loop-row : goal.invariant-loop-row
invariant-loop-row l = spec.merged (drop l.row-index l.rows) (view.rows l.list.items) ≡ spec.merged l.rows []
