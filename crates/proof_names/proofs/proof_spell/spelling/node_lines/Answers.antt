use Rattle.proof_form.specs.Lines as lines
use Rattle.proof_names.specs.Outlines.{node}
use Rattle.proof_names.specs.ProofSpell.Drafts.{AscendFrom}
use Rattle.proof_names.specs.ProofSpell.Spelled.{SpellsNode}
use Rattle.proof_names.proofs.ProofSpell.CorrespondLaws.{correspond_more, all_got}
use Rattle.proof_names.proofs.proof_spell.spelling.node_lines.Goals as goal

pub node_line-requires : goal.node_line-requires
node_line-requires c =
    all_got (λ n. AscendFrom 1 n.preds.items) c.args.nodes.now c.loop-node.node-index c.node-item.result c.node-item.result c.requires c.loop-node-test.true c.node-item.is

pub loop-node-preserved : goal.loop-node-preserved
loop-node-preserved c =
    correspond_more (λ line n. SpellsNode (lines.node line) (node n)) c.loop-node.lines.items c.push.new.self.items c.args.nodes.now c.loop-node.node-index
    c.in_ok-node_line.field-0 c.node-item.result c.node-item.result c.loop-node.invariant c.loop-node-test.true c.node-item.is c.in_ok-node_line.ensures c.in_ok-push.ensures.items
