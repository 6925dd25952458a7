use Rattle.std.proofs.Common.{◌∙◌, ◌<◌, List, length, sym, ap, subst}
use Rattle.std.specs.Prelude.{slice_get}
use Rattle.std.specs.Global.{Vec}
use Rattle.triple_rows.specs.declared.predicates.PredNode.{PredNode}
use Rattle.nested_itp.proofs.NestedPredicates.TableSteps.{all_at, found_next}
use Rattle.nested_itp.proofs.nested_predicates.tables.nodes_at.Goals as goal

pub node_at-requires : goal.node_at-requires
node_at-requires c =
    subst (λ (ns : List PredNode). c.args.position < length ns) (sym c.deref.ensures.value)
    (all_at (λ (v : Vec PredNode). c.args.position < length v.items) c.args.table.now c.loop-i.i c.index-table-i.result c.loop-i-test.true c.index-table-i.is c.requires)

pub loop-i-preserved : goal.loop-i-preserved
loop-i-preserved c =
    found_next (λ (v : Vec PredNode). slice_get v.items c.args.position) c.args.table.now c.loop-i.i c.index-table-i.result c.loop-i.nodes.items c.push.new.self.items c.in_ok-node_at.field-0
    c.loop-i-test.true c.loop-i.invariant c.in_ok-push.ensures.items
    (ap (λ (v : Vec PredNode). slice_get v.items c.args.position) (sym c.index-table-i.is) ∙ ap (λ (ns : List PredNode). slice_get ns c.args.position) (sym c.deref.ensures.value) ∙
    c.in_ok-node_at.ensures)
