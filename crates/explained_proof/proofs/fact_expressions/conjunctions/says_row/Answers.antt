use Rattle.std.proofs.Common.{◌∙◌, Bool, sym, ap}
use Rattle.std.specs.Borrow.{Bor}
use Rattle.lin_rows.specs.Rows.{LinearRow}
use Rattle.explained_proof.proofs.RowExpressions.LoopLaws.{any_here}
use Rattle.explained_proof.specs.FactExpressions.Facts as spec
use Rattle.explained_proof.proofs.fact_expressions.conjunctions.says_row.Goals as goal

pub returns-then-says : goal.returns-then-says
returns-then-says c =
    let P : LinearRow → Bool = spec.says c.args.row.now in
    sym (any_here P (λ (r : Bor LinearRow). r.now) c.args.rows.now c.loop-other.other-index c.other-item.result c.loop-other-test.true (ap (λ (r : Bor LinearRow). P (r.now)) (sym c.other-item.is) ∙ sym c.if-says.ensures))
