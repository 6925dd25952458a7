use Rattle.std.proofs.Common.{◌∙◌, Some, ap, rules}
use Rattle.letter_acts.specs.declared.acts.Act.{Act}
use Rattle.letter_acts.specs.Acts.{plain_act}
use Rattle.nested_itp.proofs.NestedPredicates.BaseLaws.{if_ok}
use Rattle.nested_itp.specs.TripleSteps.Ties.Readings.{IsBackStep, IsStepBack}
use Rattle.nested_itp.proofs.TripleSteps.StepLaws.{act_stored, back_found}
use Rattle.nested_itp.proofs.triple_steps.making.step_back.Goals as goal

pub returns-clause-step : goal.returns-clause-step
returns-clause-step c =
    let g = c.args.icfg.now in
    let found = c.in-Some-Call in
    if_ok (IsBackStep c.args.reading.now c.args.opened c.columns-caller.result.now c.columns-callee.result.now found.helpers c.len.result c.args.targets.now)
    (IsStepBack g c.args.reading.now c.args.opened c.args.call c.args.targets.now)
    (λ f h. back_found g c.args.reading.now c.args.opened c.args.call c.args.targets.now found.caller found.callee found.helpers found.rows.items c.columns-caller.result.now c.columns-callee.result.now
    c.len.result f
    (act_stored g c.acts.result.now c.args.call found.field-0.now c.acts.ensures.value (search rules) (search rules) ∙ ap (λ (a : Act). Some (plain_act a)) found.field-0-is)
    c.columns-caller.ensures.value c.columns-callee.ensures.value (search rules) h) c.back_step.result c.back_step.ensures.step
