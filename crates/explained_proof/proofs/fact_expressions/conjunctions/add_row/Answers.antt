use Rattle.std.proofs.Common.{◌∙◌, ◌<◌, length, sym, ap, arith}
use Rattle.std.specs.Borrow.{Bor}
use Rattle.lin_rows.specs.Rows.{LinearRow}
use Rattle.explained_proof.specs.FactExpressions.Facts as spec
use Rattle.explained_proof.specs.FactExpressions.Views as view
use Rattle.explained_proof.proofs.FactExpressions.FactLaws.{row_set}
use Rattle.explained_proof.proofs.fact_expressions.conjunctions.add_row.Goals as goal

pub returns-then-same_terms : goal.returns-then-same_terms
returns-then-same_terms c =
    let xs = c.loop-number.rows.items in
    let same = ap length c.loop-number.invariant.same in
    let l : c.loop-number.number < length xs = omega (arith, c.loop-number-test.true, c.len-number-end.ensures, c.args.rows.now.ok.0, same) in
    let s : Bor LinearRow = c.index-other.result.now in
    let x : Bor LinearRow = c.lesser.result in
    row_set c.args.row.now xs c.loop-number.number s x l c.index-other.ensures (sym c.if-same_terms.ensures) c.lesser.ensures c.loop-number.invariant.value ∙
    ap (λ ys. spec.with_row c.args.row.now (view.rows ys)) c.loop-number.invariant.same
