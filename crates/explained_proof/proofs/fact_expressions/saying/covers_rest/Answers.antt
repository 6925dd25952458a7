use Rattle.std.proofs.Common.{◌∙◌, Bool, sym, ap}
use Rattle.explained_proof.specs.RowExpressions.Options.{passes}
use Rattle.explained_proof.proofs.RowExpressions.LoopLaws.{any_here}
use Rattle.explained_proof.specs.declared.fact_expressions.conjunctions.Conjunction.{Conjunction}
use Rattle.explained_proof.specs.FactExpressions.Conclusions as spec
use Rattle.explained_proof.specs.FactExpressions.EntryRows.{cover_all}
use Rattle.explained_proof.specs.FactExpressions.Facts.{Facts}
use Rattle.explained_proof.specs.FactExpressions.Views as view
use Rattle.explained_proof.proofs.fact_expressions.saying.covers_rest.Goals as goal

pub returns-then-covers : goal.returns-then-covers
returns-then-covers c =
    let P : Facts → Bool = λ d. passes (cover_all c.args.row.now) (spec.row_alone d) in
    sym (any_here P view.facts c.args.facts.now c.loop-fact.fact-index c.fact-item.result c.loop-fact-test.true (ap (λ (f : Conjunction). P (view.facts f)) (sym c.fact-item.is) ∙ sym c.if-covers.ensures))
