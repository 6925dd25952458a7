use Rattle.std.proofs.Common.{List, length, sym, subst}
use Rattle.std.specs.List.{AllByRecursion}
use Rattle.triple_rows.specs.declared.predicates.PredNode.{PredNode}
use Rattle.triple_rows.specs.Predicates.{IsOver, HasInequalities, formulas}
use Rattle.triple_rows.specs.Reading.{AreComplete}
use Rattle.triple_rows.proofs.HoldingLaws.{predicate_is_whole, whole_over}
use Rattle.triple_rows.proofs.AddingLaws.{whole_inequalities}
use Rattle.triple_rows.proofs.adding.add_pred.Goals as goal

pub add_tree-requires-clause-complete : goal.add_tree-requires-clause-complete
add_tree-requires-clause-complete c = subst AreComplete (sym c.nodes.ensures.value) (predicate_is_whole c.args.pred.now c.nodes.ensures.valid).complete

pub add_tree-requires-clause-over : goal.add_tree-requires-clause-over
add_tree-requires-clause-over c =
    subst (λ (ns : List PredNode). AllByRecursion (IsOver (length c.args.columns.now)) (formulas ns)) (sym c.nodes.ensures.value)
    (whole_over (length c.args.columns.now) c.args.pred.now (predicate_is_whole c.args.pred.now c.nodes.ensures.valid) c.requires.over)

pub add_tree-requires-clause-inequalities : goal.add_tree-requires-clause-inequalities
add_tree-requires-clause-inequalities c =
    subst (λ (ns : List PredNode). AllByRecursion HasInequalities (formulas ns)) (sym c.nodes.ensures.value)
    (whole_inequalities c.args.pred.now c.nodes.ensures.valid)
