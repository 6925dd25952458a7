use Rattle.std.proofs.Common.{List, length, sym, subst}
use Rattle.std.specs.List.{AllByRecursion}
use Rattle.triple_rows.specs.declared.predicates.PredNode.{PredNode}
use Rattle.triple_rows.specs.Predicates.{IsOver, formulas}
use Rattle.triple_rows.specs.Reading.{AreComplete}
use Rattle.triple_rows.proofs.HoldingLaws.{predicate_is_whole, whole_over}
use Rattle.triple_rows.proofs.holding.pred_holds.Goals as goal

pub tree_holds-requires-clause-complete : goal.tree_holds-requires-clause-complete
tree_holds-requires-clause-complete c = subst AreComplete (sym c.nodes.ensures.value) (predicate_is_whole c.args.pred.now c.nodes.ensures.valid).complete

pub tree_holds-requires-clause-over : goal.tree_holds-requires-clause-over
tree_holds-requires-clause-over c =
    subst (λ (ns : List PredNode). AllByRecursion (IsOver (length c.args.values.now)) (formulas ns)) (sym c.nodes.ensures.value)
    (whole_over (length c.args.values.now) c.args.pred.now (predicate_is_whole c.args.pred.now c.nodes.ensures.valid) c.requires)
