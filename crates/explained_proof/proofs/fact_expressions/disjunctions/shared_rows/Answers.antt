use Rattle.std.proofs.Common.{Bool, map}
use Rattle.std.specs.Borrow.{Bor}
use Rattle.std.specs.List.{list_all}
use Rattle.lin_rows.specs.Rows.{LinearRow}
use Rattle.explained_proof.specs.FactExpressions.Facts as known
use Rattle.explained_proof.specs.FactExpressions.Views as view
use Rattle.explained_proof.proofs.FactExpressions.FactLaws.{filter_next}
use Rattle.explained_proof.proofs.fact_expressions.disjunctions.shared_rows.Goals as goal

pub loop-row-preserved : goal.loop-row-preserved
loop-row-preserved c =
    let P : LinearRow → Bool = λ r. list_all (λ d. known.is_row d.rows r) (map view.facts c.args.facts.now) in
    filter_next P (λ (r : Bor LinearRow). r.now) c.args.rows.now c.loop-row.row-index c.row-item.result c.all_have_row.result (view.rows c.loop-row.list.items) (view.rows c.push_row_if.new.list.items)
    c.loop-row-test.true c.row-item.is c.loop-row.invariant c.all_have_row.ensures c.in_ok-push_row_if.ensures
