use Rattle.std.proofs.Common.{◌∙◌, sym, map}
use Rattle.std.proofs.lemmas.Bool.{false≢true}
use Rattle.proof_names.specs.Outlines.{node}
use Rattle.proof_check.specs.Proves.{ErrorIsFalse}
use Rattle.proof_check.proofs.FirstLaws.{first_on, first_found, first_none, node_got, nodes_end}
use Rattle.proof_check.proofs.places.first_open_error.Goals as goal

pub returns-then-not-error_is_false : goal.returns-then-not-error_is_false
returns-then-not-error_is_false c =
    first_found (λ n x. ErrorIsFalse c.args.nwa.now x) (map node c.args.nodes.now) c.loop-n.n (node c.index-nodes-n.result) c.loop-n.invariant
    (node_got c.args.nodes.now c.loop-n.n c.index-nodes-n.result c.loop-n-test.true c.index-nodes-n.is)
    (λ p. false≢true (sym c.if-not-error_is_false.true ∙ c.error_is_false.ensures.1 p))

pub loop-n-preserved : goal.loop-n-preserved
loop-n-preserved c =
    first_on (λ n x. ErrorIsFalse c.args.nwa.now x) (map node c.args.nodes.now) c.loop-n.n (node c.index-nodes-n.result) c.loop-n.invariant
    (node_got c.args.nodes.now c.loop-n.n c.index-nodes-n.result c.loop-n-test.true c.index-nodes-n.is)
    (c.error_is_false.ensures.0 c.if-not-error_is_false.false)

pub returns : goal.returns
returns c =
    first_none (λ n x. ErrorIsFalse c.args.nwa.now x) (map node c.args.nodes.now) c.loop-n.n c.loop-n.invariant
    (nodes_end c.args.nodes.now c.loop-n.n c.loop-n-test.false)
