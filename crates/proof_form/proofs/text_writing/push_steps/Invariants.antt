use Rattle.std.proofs.Common.{◌≡◌, ◌++◌}
use Rattle.std.specs.List.{flat_map}
use Rattle.proof_form.specs.Annotations.{ended}
use Rattle.proof_form.specs.Lines.{step_text}
use Rattle.proof_form.proofs.WritingLaws.{with_rest}
use Rattle.proof_form.proofs.text_writing.push_steps.Given as goal

abbrev pub invariant-loop-step : goal.invariant-loop-step
invariant-loop-step l = with_rest (λ s. ended (step_text s)) l.out.items l.steps l.step-index ≡ l.fn.out.items ++ flat_map (λ s. ended (step_text s)) l.steps
