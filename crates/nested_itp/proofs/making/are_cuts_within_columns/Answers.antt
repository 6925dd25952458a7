use Rattle.std.proofs.Common.{◌∙◌, refl, sym}
use Rattle.std.proofs.lemmas.Bool.{false≢true}
use Rattle.triple_rows.specs.Cuts.{IsCutWithin}
use Rattle.nested_itp.proofs.CutLaws.{node_more, node_all, node_at}
use Rattle.nested_itp.proofs.making.are_cuts_within_columns.Goals as goal

pub returns-then-not-is_cut_within : goal.returns-then-not-is_cut_within
returns-then-not-is_cut_within c = (
  λ t. absurd (false≢true t),
  λ h. sym c.if-not-is_cut_within.true ∙ c.is_cut_within.ensures.1
      (node_at (IsCutWithin c.args.columns) c.args.nodes.now c.loop-node.node-index c.node-item.result c.loop-node-test.true c.node-item.is h),
)

pub loop-node-preserved : goal.loop-node-preserved
loop-node-preserved c = node_more (IsCutWithin c.args.columns) c.args.nodes.now c.loop-node.node-index c.node-item.result c.loop-node-test.true c.node-item.is
    (c.is_cut_within.ensures.0 c.if-not-is_cut_within.false) c.loop-node.invariant

pub returns : goal.returns
returns c = (
  λ t. node_all (IsCutWithin c.args.columns) c.args.nodes.now c.loop-node.node-index c.loop-node-test.false c.loop-node.invariant,
  λ h. refl,
)
