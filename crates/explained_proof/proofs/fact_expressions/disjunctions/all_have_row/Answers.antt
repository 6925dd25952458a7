use Rattle.std.proofs.Common.{◌≡◌, ◌∙◌, Bool, false, List, sym, ap}
use Rattle.std.specs.Borrow.{Bor}
use Rattle.lin_rows.specs.Rows.{LinearRow}
use Rattle.explained_proof.proofs.RowExpressions.LoopLaws.{all_here}
use Rattle.explained_proof.specs.declared.fact_expressions.conjunctions.Conjunction.{Conjunction}
use Rattle.explained_proof.specs.FactExpressions.Facts as known
use Rattle.explained_proof.specs.FactExpressions.Facts.{Facts}
use Rattle.explained_proof.specs.FactExpressions.Views as view
use Rattle.explained_proof.proofs.fact_expressions.disjunctions.all_have_row.Goals as goal

pub returns-then-not-is_row : goal.returns-then-not-is_row
returns-then-not-is_row c =
    let P : Facts → Bool = λ d. known.is_row d.rows c.args.row.now in
    let e : P (view.facts c.fact-item.result) ≡ false = ap (λ (rs : List (Bor LinearRow)). known.is_row (view.rows rs) c.args.row.now) (sym c.deref.ensures.value) ∙ sym c.if-not-is_row.ensures in
    sym (all_here P view.facts c.args.facts.now c.loop-fact.fact-index c.fact-item.result c.loop-fact-test.true (ap (λ (f : Conjunction). P (view.facts f)) (sym c.fact-item.is) ∙ e))
