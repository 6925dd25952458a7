use Rattle.std.proofs.Common.{◌≡◌, false, take}
use Rattle.std.specs.List.{list_any}
use Rattle.explained_proof.specs.RowExpressions.Scopes as spec
use Rattle.explained_proof.specs.RowExpressions.Views as view
use Rattle.explained_proof.proofs.row_expressions.scopes.Scope.hides.Given as goal

abbrev pub invariant-loop-column : goal.invariant-loop-column
invariant-loop-column l = list_any (spec.is_seen_local (view.scope l.self) l.name) (take l.column-index l.self.frame.now) ≡ false
