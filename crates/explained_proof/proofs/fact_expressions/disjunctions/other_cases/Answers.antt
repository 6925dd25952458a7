use Rattle.std.proofs.Common.{Bool, map, not, ap}
use Rattle.triple_rows.specs.Predicates.{Formula}
use Rattle.explained_proof.specs.FactExpressions.Facts as known
use Rattle.explained_proof.specs.FactExpressions.Views as view
use Rattle.explained_proof.proofs.FactExpressions.FactLaws.{filter_next}
use Rattle.explained_proof.proofs.fact_expressions.disjunctions.other_cases.Goals as goal

pub loop-tree-preserved : goal.loop-tree-preserved
loop-tree-preserved c =
    let P : Formula → Bool = λ f. not (known.has_cases (map view.tree c.args.shared.now) f) in
    filter_next P (view.tree) c.args.cases.now c.loop-tree.tree-index c.tree-item.result (not c.has_cases.result) (map view.tree c.loop-tree.list.items) (map view.tree c.push_tree_if.new.list.items)
    c.loop-tree-test.true c.tree-item.is c.loop-tree.invariant (ap not c.has_cases.ensures) c.in_ok-push_tree_if.ensures
