use Rattle.std.proofs.Common.{◌≡◌, take}
use Rattle.explained_proof.specs.RowExpressions.Views as scopes
use Rattle.explained_proof.specs.FactExpressions.EntryRows as spec
use Rattle.explained_proof.proofs.fact_expressions.entry_rows.entry_terms.Given as goal

abbrev pub invariant-loop-column : goal.invariant-loop-column
invariant-loop-column l = l.list.items ≡ spec.entry_terms (scopes.scope l.scope) (take l.column-index l.terms)
