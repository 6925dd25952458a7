use Rattle.std.proofs.Common.{◌≡◌, true, take}
use Rattle.std.specs.List.{list_all}
use Rattle.explained_proof.specs.RowExpressions.Scopes as scopes
use Rattle.explained_proof.specs.RowExpressions.Views as view
use Rattle.explained_proof.proofs.row_expressions.rows.can_say_all.Given as goal

abbrev pub invariant-loop-column : goal.invariant-loop-column
invariant-loop-column l = list_all (λ t. scopes.can_say (view.scope l.scope) t.0) (take l.column-index l.terms) ≡ true
