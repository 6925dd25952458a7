use Rattle.std.proofs.Common.{◌∙◌, sym}
use Rattle.proof_form.specs.Predicates as form
use Rattle.proof_reuse.specs.Found.{node_found}
use Rattle.proof_names.proofs.AllLaws.{found_on, passes_at}
use Rattle.proof_reuse.proofs.FindLaws.{found_start, found_none, found_end}
use Rattle.proof_reuse.proofs.finding.nodes_found.Goals as goal

pub node_found-requires : goal.node_found-requires
node_found-requires c = passes_at (λ n. form.is_predicate_node (form.plain_predicate_node n)) c.args.nodes.now c.loop-spelled.spelled-index c.spelled-item.result c.requires c.loop-spelled-test.true c.spelled-item.is

pub loop-spelled-init : goal.loop-spelled-init
loop-spelled-init c = found_start (λ n. node_found c.args.frame.now (form.plain_predicate_node n)) c.args.nodes.now c.new-found.result.items c.new-found.ensures.items

pub loop-spelled-preserved : goal.loop-spelled-preserved
loop-spelled-preserved c =
    found_on (λ n. node_found c.args.frame.now (form.plain_predicate_node n)) c.args.nodes.now c.loop-spelled.spelled-index c.loop-spelled.found.items _ c.spelled-item.result c.in-Some.node c.loop-spelled.invariant c.loop-spelled-test.true c.spelled-item.is
    (sym c.in_ok-node.ensures ∙ c.in-Some.is) c.in_ok-push.ensures.items

pub returns-in_default : goal.returns-in_default
returns-in_default c =
    found_none (λ n. node_found c.args.frame.now (form.plain_predicate_node n)) c.args.nodes.now c.loop-spelled.spelled-index c.loop-spelled.found.items c.spelled-item.result c.loop-spelled.invariant c.loop-spelled-test.true c.spelled-item.is (sym c.in_default.is ∙ c.in_ok-node.ensures)

pub returns : goal.returns
returns c = found_end (λ n. node_found c.args.frame.now (form.plain_predicate_node n)) c.args.nodes.now c.loop-spelled.spelled-index c.loop-spelled.found.items c.loop-spelled.invariant c.loop-spelled-test.false
