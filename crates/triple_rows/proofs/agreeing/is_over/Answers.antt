use Rattle.std.proofs.Common.{sym, subst}
use Rattle.std.specs.List.{AllByRecursion}
use Rattle.triple_rows.specs.Reading.{NodeIsOver}
use Rattle.triple_rows.proofs.AgreeingLaws.{over_predicate}
use Rattle.triple_rows.proofs.agreeing.is_over.Goals as goal

pub returns : goal.returns
returns c =
    let n = c.args.columns in
    let o = over_predicate n c.args.pred.now c.nodes.ensures.valid in
    let e = c.nodes.ensures.value in (
      λ t. o.0 (subst (AllByRecursion (NodeIsOver n)) e (c.nodes_are_over.ensures.0 t)),
      λ h. c.nodes_are_over.ensures.1 (subst (AllByRecursion (NodeIsOver n)) (sym e) (o.1 h)),
    )
