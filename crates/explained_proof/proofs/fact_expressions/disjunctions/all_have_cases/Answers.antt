use Rattle.std.proofs.Common.{◌≡◌, ◌∙◌, Bool, false, List, map, sym, ap}
use Rattle.explained_proof.proofs.RowExpressions.LoopLaws.{all_here}
use Rattle.explained_proof.specs.declared.fact_expressions.conjunctions.Conjunction.{Conjunction}
use Rattle.explained_proof.specs.declared.fact_expressions.trees.Tree.{Tree}
use Rattle.explained_proof.specs.FactExpressions.Facts as known
use Rattle.explained_proof.specs.FactExpressions.Facts.{Facts}
use Rattle.explained_proof.specs.FactExpressions.Views as view
use Rattle.explained_proof.proofs.fact_expressions.disjunctions.all_have_cases.Goals as goal

pub returns-then-not-has_cases : goal.returns-then-not-has_cases
returns-then-not-has_cases c =
    let P : Facts → Bool = λ d. known.has_cases d.cases (view.tree c.args.tree) in
    let e : P (view.facts c.fact-item.result) ≡ false = ap (λ (ts : List Tree). known.has_cases (map view.tree ts) (view.tree c.args.tree)) (sym c.deref.ensures.value) ∙ sym c.if-not-has_cases.ensures in
    sym (all_here P view.facts c.args.facts.now c.loop-fact.fact-index c.fact-item.result c.loop-fact-test.true (ap (λ (f : Conjunction). P (view.facts f)) (sym c.fact-item.is) ∙ e))
