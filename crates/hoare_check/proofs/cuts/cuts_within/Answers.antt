use Rattle.std.proofs.Common.{refl, sym, ◌∙◌}
use Rattle.std.proofs.lemmas.Bool.{false≢true}
use Rattle.triple_rows.specs.Cuts.{IsCutWithin}
use Rattle.hoare_check.proofs.CutLaws.{node_more, node_all, node_at}
use Rattle.hoare_check.proofs.cuts.cuts_within.Goals as goal

pub returns-then-not-is_cut_within : goal.returns-then-not-is_cut_within
returns-then-not-is_cut_within c = λ n k. (
  λ t. absurd (false≢true t),
  λ h. sym c.if-not-is_cut_within.true ∙ (c.is_cut_within.ensures n k).1
      (node_at (IsCutWithin n) c.args.nodes.now c.loop-node.node-index c.node-item.result c.loop-node-test.true c.node-item.is h),
)

pub loop-node-preserved : goal.loop-node-preserved
loop-node-preserved c = λ n k. node_more (IsCutWithin n) c.args.nodes.now c.loop-node.node-index c.node-item.result c.loop-node-test.true c.node-item.is
    ((c.is_cut_within.ensures n k).0 c.if-not-is_cut_within.false) (c.loop-node.invariant n k)

pub returns : goal.returns
returns c = λ n k. (
  λ t. node_all (IsCutWithin n) c.args.nodes.now c.loop-node.node-index c.loop-node-test.false (c.loop-node.invariant n k),
  λ h. refl,
)
