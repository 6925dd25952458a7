use Rattle.std.proofs.Common.{◌<◌, sym, ◌∙◌, arith}
use Rattle.farkas_check.proofs.NodeLaws.{trees_go, trees_stop}
use Rattle.farkas_check.proofs.refutations.is_tree.Goals as goal

pub returns-then-missing-eq0 : goal.returns-then-missing-eq0
returns-then-missing-eq0 c =
    sym (trees_stop c.args.nodes.now c.loop-node.node-index c.loop-node.missing c.node-item.result c.loop-node-test.true c.if-missing-eq0.true) ∙ c.loop-node.invariant.trees

pub loop-node-preserved : goal.loop-node-preserved
loop-node-preserved c = record {
  few = omega arith;
  trees =
      let some : 0 < c.loop-node.missing = omega arith in
      let go = trees_go c.args.nodes.now c.loop-node.node-index c.loop-node.missing c.node-item.result c.loop-node-test.true some in
      rw (c.branches.ensures.value, c.node-item.is) (sym go ∙ c.loop-node.invariant.trees);
}
