use Rattle.std.proofs.Common.{◌∙◌, Bool, sym, ap}
use Rattle.triple_rows.specs.Predicates.{Formula}
use Rattle.explained_proof.specs.declared.fact_expressions.trees.Tree.{Tree}
use Rattle.explained_proof.proofs.RowExpressions.LoopLaws.{any_here}
use Rattle.explained_proof.specs.FactExpressions.Trees.{same_formula}
use Rattle.explained_proof.specs.FactExpressions.Views as view
use Rattle.explained_proof.proofs.fact_expressions.conjunctions.has_cases.Goals as goal

pub returns-then-is_same : goal.returns-then-is_same
returns-then-is_same c =
    let P : Formula → Bool = λ g. same_formula g (view.tree c.args.tree) in
    sym (any_here P (view.tree) c.args.cases.now c.loop-other.other-index c.other-item.result c.loop-other-test.true (ap (λ (r : Tree). P (view.tree r)) (sym c.other-item.is) ∙ sym c.if-is_same.ensures))
