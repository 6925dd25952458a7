use Rattle.std.proofs.Common.{◌∙◌, sym, map}
use Rattle.std.proofs.lemmas.Bool.{false≢true}
use Rattle.proof_names.specs.Outlines.{node}
use Rattle.proof_check.specs.Proves.{IsStart}
use Rattle.proof_check.proofs.FirstLaws.{first_on, first_none, node_got, nodes_end}
use Rattle.proof_check.proofs.places.has_start.Goals as goal

pub loop-n-preserved : goal.loop-n-preserved
loop-n-preserved c =
    first_on (λ n x. IsStart n x → ⊥) (map node c.args.nodes.now) c.loop-n.n (node c.index-nodes-n.result) c.loop-n.invariant
    (node_got c.args.nodes.now c.loop-n.n c.index-nodes-n.result c.loop-n-test.true c.index-nodes-n.is)
    (λ p. false≢true (sym c.if-is_start.false ∙ c.is_start.ensures.1 p))

pub returns : goal.returns
returns c = (
  λ h. absurd (false≢true h),
  λ s. absurd (first_none (λ n x. IsStart n x → ⊥) (map node c.args.nodes.now) c.loop-n.n c.loop-n.invariant
      (nodes_end c.args.nodes.now c.loop-n.n c.loop-n-test.false) s.0 s.1 s.2 s.3),
)
