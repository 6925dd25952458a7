use Rattle.std.proofs.Common.{arith}
use Rattle.proof_form.specs.Refutations.{plain_refutation_node, refutation_head, refutation_parts}
use Rattle.proof_form.proofs.PendingLaws.{begins, some_left, goes_on, ends}
use Rattle.proof_form.proofs.refutations.push_refutation.Goals as goal

pub loop-node-init : goal.loop-node-init
loop-node-init c = begins plain_refutation_node refutation_head refutation_parts c.args.out.now.items c.new-outer.result.items c.args.nodes.now c.new-outer.ensures.items c.requires

pub loop-node-preserved : goal.loop-node-preserved
loop-node-preserved c =
    goes_on plain_refutation_node refutation_head refutation_parts _ _ _ _ _ _ _ _ _ _ _ _ _ c.loop-node-test.true c.node-item.is c.loop-node.invariant c.in_ok-push_head.ensures c.in_ok-push.ensures.items c.parts.ensures
    c.in_ok-left.ensures.same c.in_ok-left.ensures.kept c.in_ok-left.ensures.ready

pub overflow_sub-left : goal.overflow_sub-left
overflow_sub-left c = let some = some_left plain_refutation_node refutation_head refutation_parts _ _ _ _ _ _ c.loop-node-test.true c.loop-node.invariant in omega arith

pub returns : goal.returns
returns c = ends plain_refutation_node refutation_head refutation_parts _ _ _ _ _ _ c.loop-node-test.false c.loop-node.invariant
