use Rattle.std.proofs.Common.{get_or, refl}
use Rattle.proof_names.specs.declared.outlines.NamedStep.TheVariants.{Step}
use Rattle.proof_names.specs.ProofSpell.Spelled.{SpellsStep}
use Rattle.proof_names.proofs.ProofSpell.CorrespondLaws.{correspond_more}
use Rattle.proof_names.proofs.proof_spell.spelling.step_lines.Goals as goal

pub loop-step-preserved : goal.loop-step-preserved
loop-step-preserved c =
    correspond_more SpellsStep c.loop-step.lines.items c.push.new.self.items c.args.steps.now c.loop-step.step-index c.in_ok-step_line.field-0
    (get_or c.args.steps.now c.loop-step.step-index (Step 0 0 0)) (Step 0 0 0) c.loop-step.invariant c.loop-step-test.true refl c.in_ok-step_line.ensures c.in_ok-push.ensures.items
