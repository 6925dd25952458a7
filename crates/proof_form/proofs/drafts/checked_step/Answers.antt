use Rattle.proof_form.specs.declared.lines.StepLine.{StepLine}
use Rattle.proof_form.specs.Lines.{is_step}
use Rattle.proof_form.specs.TextReading.{checked_step_of}
use Rattle.proof_form.proofs.DraftLaws.{kept_as}
use Rattle.proof_form.proofs.drafts.checked_step.Goals as goal

pub returns : goal.returns
unfolding checked_step_of
returns c = rw c.in_ok-step.ensures (kept_as (λ (s : StepLine). s) is_step c.kept.result _ _ c.is_step-holds.ensures c.kept.ensures)
