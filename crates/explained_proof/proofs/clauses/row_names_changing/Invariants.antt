use Rattle.std.proofs.Common.{◌≡◌, false, take}
use Rattle.std.specs.List.{list_any}
use Rattle.explained_proof.specs.RowExpressions.Scopes.{may_change}
use Rattle.explained_proof.specs.RowExpressions.Views as scopes
use Rattle.explained_proof.proofs.clauses.row_names_changing.Given as goal

abbrev pub invariant-loop-column : goal.invariant-loop-column
invariant-loop-column l = list_any (λ t. may_change (scopes.scope l.scope) t.0) (take l.column-index l.column-items) ≡ false
