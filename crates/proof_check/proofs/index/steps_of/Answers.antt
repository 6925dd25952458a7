use Rattle.std.proofs.Common.{◌∙◌, sym, refl}
use Rattle.proof_names.specs.declared.outlines.NamedStep.TheVariants as steps
use Rattle.proof_check.proofs.IndexLaws.{keys_next, keys_pass, keys_all}
use Rattle.proof_check.proofs.EntryLaws.{same_three, tells_three, step_key, step_keys}
use Rattle.proof_check.proofs.FirstLaws.{same_default}
use Rattle.proof_check.proofs.index.steps_of.Goals as goal
use Rattle.proof_check.proofs.index.steps_of.Goals.{in-Step+in_ok-insert, in_default}

pub loop-step-preserved : goal.loop-step-preserved
loop-step-preserved c = elim c.match-step.branch [
  | in-Step+in_ok-insert w ↦ rw w.steps-is
      (keys_next step_key same_three c.args.moves.now c.loop-step.step-index (steps.Step w.in-Step.from w.in-Step.letter w.in-Step.to) _ _ _ tells_three c.loop-step.invariant
      c.loop-step-test.true (sym w.in-Step.is ∙ same_default c.args.moves.now c.loop-step.step-index _ _ c.loop-step-test.true) refl w.in_ok-insert.ensures.updates.0)
  | in_default w ↦ rw w.steps-is
      (keys_pass step_key c.args.moves.now c.loop-step.step-index
      (steps.Back w.in_default.field-0 w.in_default.field-1 w.in_default.field-2 w.in_default.field-3) _ c.loop-step.invariant c.loop-step-test.true
      (sym w.in_default.is ∙ same_default c.args.moves.now c.loop-step.step-index _ _ c.loop-step-test.true) refl)
]

pub returns : goal.returns
returns c = step_keys c.args.moves.now _ (keys_all step_key c.args.moves.now c.loop-step.step-index _ c.loop-step.invariant c.loop-step-test.false)
