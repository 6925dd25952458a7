use Rattle.proof_form.specs.Predicates as form
use Rattle.proof_names.specs.ProofSpell.Nodes.{SpellsNode}
use Rattle.proof_names.proofs.ProofSpell.CorrespondLaws.{correspond_more}
use Rattle.proof_names.proofs.proof_spell.predicates.node_lines.Goals as goal

pub loop-node-preserved : goal.loop-node-preserved
loop-node-preserved c =
    correspond_more (λ n. SpellsNode c.args.frame.now (form.plain_predicate_node n)) c.loop-node.lines.items c.push.new.self.items c.args.nodes.now c.loop-node.node-index c.in_ok-node_line.field-0
    c.node-item.result c.node-item.result c.loop-node.invariant c.loop-node-test.true c.node-item.is c.in_ok-node_line.ensures c.in_ok-push.ensures.items
