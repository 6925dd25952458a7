use Rattle.proof_form.specs.Lines.{node, is_node}
use Rattle.proof_form.proofs.TestLaws.{one_fails, one_passes, all_passed}
use Rattle.proof_form.proofs.making.are_nodes.Goals as goal

pub returns-then-not-is_node : goal.returns-then-not-is_node
returns-then-not-is_node c =
    one_fails node is_node c.args.nodes.now c.loop-node.node-index _ c.node-item.result c.loop-node-test.true c.node-item.is c.if-not-is_node.ensures c.loop-node.invariant

pub loop-node-preserved : goal.loop-node-preserved
loop-node-preserved c =
    one_passes node is_node c.args.nodes.now c.loop-node.node-index _ c.node-item.result c.loop-node-test.true c.node-item.is c.if-not-is_node.ensures c.loop-node.invariant

pub returns : goal.returns
returns c = all_passed node is_node c.args.nodes.now c.loop-node.node-index _ c.loop-node-test.false c.loop-node.invariant
