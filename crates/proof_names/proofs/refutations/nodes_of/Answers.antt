use Rattle.std.proofs.Common.{◌∙◌, ap, sym}
use Rattle.std.specs.Option.{option_map}
use Rattle.std.proofs.lemmas.List.{map_push}
use Rattle.farkas_check.specs.Nodes.{plain, plain_nodes}
use Rattle.proof_form.specs.Refutations as form
use Rattle.proof_names.specs.Refutations.{node_of}
use Rattle.proof_names.proofs.AllLaws.{found_on}
use Rattle.proof_names.proofs.FoundLaws.{found_start, found_none, found_end}
use Rattle.proof_names.proofs.refutations.nodes_of.Goals as goal

pub loop-node-init : goal.loop-node-init
loop-node-init c = found_start (λ n. node_of (form.plain_refutation_node n)) c.args.nodes.now (plain_nodes c.in_ok-named.named.items) (ap plain_nodes c.in_ok-named.ensures.items)

pub loop-node-preserved : goal.loop-node-preserved
loop-node-preserved c =
    found_on (λ n. node_of (form.plain_refutation_node n)) c.args.nodes.now c.loop-node.node-index (plain_nodes c.loop-node.named.items) _ c.node-item.result (plain c.in-Some.node)
    c.loop-node.invariant c.loop-node-test.true c.node-item.is (sym c.in_ok-node.ensures ∙ ap (option_map plain) c.in-Some.is)
    (ap plain_nodes c.in_ok-push-in-Some.ensures.items ∙ map_push plain c.loop-node.named.items c.in-Some.node)

pub returns-in-None : goal.returns-in-None
returns-in-None c =
    found_none (λ n. node_of (form.plain_refutation_node n)) c.args.nodes.now c.loop-node.node-index (plain_nodes c.loop-node.named.items) c.node-item.result c.loop-node.invariant c.loop-node-test.true
    c.node-item.is (sym (ap (option_map plain) c.in-None.is) ∙ c.in_ok-node.ensures)

pub returns : goal.returns
returns c =
    found_end (λ n. node_of (form.plain_refutation_node n)) c.args.nodes.now c.loop-node.node-index (plain_nodes c.loop-node.named.items) c.loop-node.invariant c.loop-node-test.false
