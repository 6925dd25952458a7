use Rattle.proof_form.specs.Lines.{pred, is_pred}
use Rattle.proof_form.specs.TextReading.{checked_pred_of}
use Rattle.proof_form.proofs.DraftLaws.{kept_as}
use Rattle.proof_form.proofs.drafts.checked_pred.Goals as goal

pub returns : goal.returns
unfolding checked_pred_of
returns c = rw c.in_ok-pred.ensures (kept_as pred is_pred c.kept.result _ _ c.in_ok-holds.ensures c.kept.ensures)
