use Rattle.std.proofs.Common.{◌∙◌, Bool, sym, ap}
use Rattle.std.specs.Borrow.{Bor}
use Rattle.lin_rows.specs.Rows.{LinearRow}
use Rattle.explained_proof.proofs.RowExpressions.LoopLaws.{all_here}
use Rattle.explained_proof.specs.FactExpressions.Facts as spec
use Rattle.explained_proof.specs.FactExpressions.Views as view
use Rattle.explained_proof.proofs.fact_expressions.conjunctions.say_all.Goals as goal

pub returns-then-not-says_row : goal.returns-then-not-says_row
returns-then-not-says_row c =
    let P : LinearRow → Bool = spec.says_row (view.rows c.args.rows.now) in
    sym (all_here P (λ (r : Bor LinearRow). r.now) c.args.others.now c.loop-other.other-index c.other-item.result c.loop-other-test.true (ap (λ (r : Bor LinearRow). P (r.now)) (sym c.other-item.is) ∙ sym c.if-not-says_row.ensures))
