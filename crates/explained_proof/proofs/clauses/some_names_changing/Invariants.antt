use Rattle.std.proofs.Common.{◌≡◌, false, take}
use Rattle.std.specs.List.{list_any}
use Rattle.explained_proof.specs.RowExpressions.Views as scopes
use Rattle.explained_proof.specs.FactExpressions.Views as facts
use Rattle.explained_proof.specs.Clauses as spec
use Rattle.explained_proof.proofs.clauses.some_names_changing.Given as goal

abbrev pub invariant-loop-row : goal.invariant-loop-row
invariant-loop-row l = list_any (spec.row_names_changing (scopes.scope l.scope)) (facts.rows (take l.row-index l.rows)) ≡ false
