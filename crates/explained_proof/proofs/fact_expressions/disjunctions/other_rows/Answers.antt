use Rattle.std.proofs.Common.{Bool, not, ap}
use Rattle.std.specs.Borrow.{Bor}
use Rattle.lin_rows.specs.Rows.{LinearRow}
use Rattle.explained_proof.specs.FactExpressions.Facts as known
use Rattle.explained_proof.specs.FactExpressions.Views as view
use Rattle.explained_proof.proofs.FactExpressions.FactLaws.{filter_next}
use Rattle.explained_proof.proofs.fact_expressions.disjunctions.other_rows.Goals as goal

pub loop-row-preserved : goal.loop-row-preserved
loop-row-preserved c =
    let P : LinearRow → Bool = λ r. not (known.is_row (view.rows c.args.shared.now) r) in
    filter_next P (λ (r : Bor LinearRow). r.now) c.args.rows.now c.loop-row.row-index c.row-item.result (not c.is_row.result) (view.rows c.loop-row.list.items) (view.rows c.push_row_if.new.list.items)
    c.loop-row-test.true c.row-item.is c.loop-row.invariant (ap not c.is_row.ensures) c.in_ok-push_row_if.ensures
