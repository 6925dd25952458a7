use Rattle.std.proofs.Common.{◌∙◌, Bool, sym, ap}
use Rattle.std.specs.Borrow.{Bor}
use Rattle.lin_rows.specs.Rows.{LinearRow}
use Rattle.explained_proof.proofs.RowExpressions.LoopLaws.{any_here}
use Rattle.explained_proof.specs.RowExpressions.Views as scopes
use Rattle.explained_proof.specs.Clauses as spec
use Rattle.explained_proof.proofs.clauses.some_names_changing.Goals as goal

pub returns-then-row_names_changing : goal.returns-then-row_names_changing
returns-then-row_names_changing c =
    let P : LinearRow → Bool = spec.row_names_changing (scopes.scope c.args.scope.now) in
    sym (any_here P (λ (r : Bor LinearRow). r.now) c.args.rows.now c.loop-row.row-index c.row-item.result c.loop-row-test.true (ap (λ (r : Bor LinearRow). P (r.now)) (sym c.row-item.is) ∙ sym c.if-row_names_changing.ensures))
