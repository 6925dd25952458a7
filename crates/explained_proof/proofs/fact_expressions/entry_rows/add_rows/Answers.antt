use Rattle.std.proofs.Common.{◌<◌, length, arith}
use Rattle.std.specs.Borrow.{Bor}
use Rattle.std.proofs.lemmas.List.{length-map}
use Rattle.lin_rows.specs.Rows.{LinearRow}
use Rattle.explained_proof.specs.BuiltExpressions.Views.{conjuncts}
use Rattle.explained_proof.specs.RowExpressions.Views as scopes
use Rattle.explained_proof.specs.FactExpressions.Views as view
use Rattle.explained_proof.proofs.FactExpressions.ConjunctLaws.{rows_on}
use Rattle.explained_proof.proofs.fact_expressions.entry_rows.add_rows.Goals as goal

pub loop-place-preserved : goal.loop-place-preserved
loop-place-preserved c =
    let l : c.loop-place.place < length (view.rows c.args.rows.now) = omega (arith, c.loop-place-test.true, length-map c.args.rows.now (λ (r : Bor LinearRow). r.now)) in
    rows_on (scopes.scope c.args.scope.now) (view.rows c.args.rows.now) c.loop-place.place (conjuncts c.args.members.now) (conjuncts c.loop-place.members) (conjuncts c.add_row_at.new.members)
    l c.loop-place.invariant c.in_ok-add_row_at.ensures
