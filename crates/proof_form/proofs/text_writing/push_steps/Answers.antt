use Rattle.std.proofs.Common.{ap, ◌++◌, ◌∙◌}
use Rattle.proof_form.specs.Annotations.{ended}
use Rattle.proof_form.specs.Lines.{step_text}
use Rattle.proof_form.proofs.ItemLaws.{ended_plain, ended_after}
use Rattle.proof_form.proofs.WritingLaws.{all_written, one_written}
use Rattle.proof_form.proofs.text_writing.push_steps.Goals as goal

pub returns : goal.returns
returns c =
    all_written (λ s. ended (step_text s)) _ _ _ _ c.loop-step-test.false c.loop-step.invariant ∙ ap (λ t. c.args.out.now.items ++ t) (ended_plain step_text c.args.steps.now)

pub loop-step-preserved : goal.loop-step-preserved
loop-step-preserved c =
    one_written (λ s. ended (step_text s)) c.args.steps.now c.loop-step.step-index c.step-item.result _ _ _ c.loop-step-test.true c.step-item.is
    (ended_after _ (step_text c.step-item.result) _ _ c.in_ok-push_step.ensures c.in_ok-push.ensures.items) c.loop-step.invariant
