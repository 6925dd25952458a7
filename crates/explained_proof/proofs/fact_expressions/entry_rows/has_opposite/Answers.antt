use Rattle.std.proofs.Common.{◌∙◌, Bool, sym, ap}
use Rattle.std.specs.Borrow.{Bor}
use Rattle.lin_rows.specs.Rows.{LinearRow}
use Rattle.explained_proof.proofs.RowExpressions.LoopLaws.{any_here}
use Rattle.explained_proof.specs.FactExpressions.EntryRows as spec
use Rattle.explained_proof.proofs.fact_expressions.entry_rows.has_opposite.Goals as goal

pub returns-then-are_opposite : goal.returns-then-are_opposite
returns-then-are_opposite c =
    let P : LinearRow → Bool = spec.are_opposite c.args.row.now in
    sym (any_here P (λ (r : Bor LinearRow). r.now) c.args.rows.now c.loop-other.other-index c.other-item.result c.loop-other-test.true (ap (λ (r : Bor LinearRow). P (r.now)) (sym c.other-item.is) ∙ sym c.if-are_opposite.ensures))
