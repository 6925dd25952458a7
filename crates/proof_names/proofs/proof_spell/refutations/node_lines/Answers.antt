use Rattle.std.proofs.Common.{List, subst, sym}
use Rattle.std.specs.Prelude.{map}
use Rattle.std.specs.List.{AllByRecursion}
use Rattle.triple_rows.proofs.ListLaws.{all_mapped}
use Rattle.farkas_check.specs.Nodes.{plain, PlainNode}
use Rattle.proof_form.specs.Refutations as form
use Rattle.proof_names.specs.ProofSpell.Correspond.{Correspond}
use Rattle.proof_names.specs.ProofSpell.Nodes.{HasNumbers, SpellsBranch}
use Rattle.proof_names.proofs.ProofSpell.CorrespondLaws.{correspond_more, correspond_end, all_got, right_viewed, all_related}
use Rattle.proof_names.proofs.ProofSpell.RefutationLaws.{refutation_valid, refutation_named}
use Rattle.proof_names.proofs.proof_spell.refutations.node_lines.Goals as goal

pub node_line-requires : goal.node_line-requires
node_line-requires c =
    all_got (λ n. HasNumbers (plain n)) c.nodes-nodes.result.now c.loop-node.node-index c.node-item.result c.node-item.result
    ((all_mapped HasNumbers plain c.nodes-nodes.result.now).0 (subst (λ (l : List PlainNode). AllByRecursion HasNumbers l) (sym c.nodes-nodes.ensures.value) c.requires))
    c.loop-node-test.true c.node-item.is

pub loop-node-preserved : goal.loop-node-preserved
loop-node-preserved c =
    correspond_more (λ n m. SpellsBranch (form.plain_refutation_node n) (plain m)) c.loop-node.lines.items c.push.new.self.items c.nodes-nodes.result.now c.loop-node.node-index c.in_ok-node_line.field-0
    c.node-item.result c.node-item.result c.loop-node.invariant c.loop-node-test.true c.node-item.is c.in_ok-node_line.ensures c.in_ok-push.ensures.items

pub returns-clause-spells : goal.returns-clause-spells
returns-clause-spells c =
    subst (λ (l : List PlainNode). Correspond (λ n. SpellsBranch (form.plain_refutation_node n)) c.loop-node.lines.items l) c.nodes-nodes.ensures.value
    (right_viewed (λ n. SpellsBranch (form.plain_refutation_node n)) plain c.loop-node.lines.items c.nodes-nodes.result.now
    (correspond_end (λ n m. SpellsBranch (form.plain_refutation_node n) (plain m)) c.loop-node.lines.items c.nodes-nodes.result.now c.loop-node.node-index c.loop-node.invariant c.loop-node-test.false))

pub returns-clause-valid : goal.returns-clause-valid
returns-clause-valid c =
    refutation_valid (map form.plain_refutation_node c.loop-node.lines.items) c.args.refutation.now
    (all_related SpellsBranch form.plain_refutation_node plain c.loop-node.lines.items c.nodes-nodes.result.now c.args.refutation.now c.loop-node.node-index c.nodes-nodes.ensures.value c.loop-node.invariant
    c.loop-node-test.false) c.nodes-nodes.ensures.whole

pub returns-clause-named : goal.returns-clause-named
returns-clause-named c =
    refutation_named (map form.plain_refutation_node c.loop-node.lines.items) c.args.refutation.now
    (all_related SpellsBranch form.plain_refutation_node plain c.loop-node.lines.items c.nodes-nodes.result.now c.args.refutation.now c.loop-node.node-index c.nodes-nodes.ensures.value c.loop-node.invariant
    c.loop-node-test.false)
