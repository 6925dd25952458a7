use Rattle.proof_form.specs.Lines.{node, is_node}
use Rattle.proof_form.specs.TextReading.{checked_node_of}
use Rattle.proof_form.proofs.DraftLaws.{kept_as}
use Rattle.proof_form.proofs.drafts.checked_node.Goals as goal

pub returns : goal.returns
unfolding checked_node_of
returns c = rw c.in_ok-node.ensures (kept_as node is_node c.kept.result _ _ c.is_node-holds.ensures c.kept.ensures)
