use Rattle.std.proofs.Common.{◌∙◌, Bool, map, sym, ap}
use Rattle.triple_rows.specs.Predicates.{Formula}
use Rattle.explained_proof.specs.declared.fact_expressions.trees.Tree.{Tree}
use Rattle.explained_proof.proofs.RowExpressions.LoopLaws.{all_here}
use Rattle.explained_proof.specs.FactExpressions.Facts as spec
use Rattle.explained_proof.specs.FactExpressions.Views as view
use Rattle.explained_proof.proofs.fact_expressions.conjunctions.have_all.Goals as goal

pub returns-then-not-has_cases : goal.returns-then-not-has_cases
returns-then-not-has_cases c =
    let P : Formula → Bool = spec.has_cases (map view.tree c.args.cases.now) in
    sym (all_here P (view.tree) c.args.others.now c.loop-other.other-index c.other-item.result c.loop-other-test.true (ap (λ (r : Tree). P (view.tree r)) (sym c.other-item.is) ∙ sym c.if-not-has_cases.ensures))
