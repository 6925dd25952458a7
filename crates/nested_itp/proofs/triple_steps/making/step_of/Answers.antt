use Rattle.std.proofs.Common.{◌∙◌, Some, ap, rules}
use Rattle.letter_acts.specs.declared.acts.Act.{Act}
use Rattle.letter_acts.specs.Acts.{plain_act}
use Rattle.nested_itp.specs.TripleSteps.Ties.Readings.{IsInsideStep, IsCallStep, IsStepBack}
use Rattle.nested_itp.proofs.NestedPredicates.BaseLaws.{if_ok}
use Rattle.nested_itp.proofs.TripleSteps.StepLaws.{inside_by, call_by, back_by, last_call, return_known}
use Rattle.nested_itp.proofs.triple_steps.making.step_of.Goals as goal

pub returns-in-Inside-clause-step : goal.returns-in-Inside-clause-step
returns-in-Inside-clause-step c =
    if_ok (IsInsideStep c.args.reading.now c.columns-frame.result.now c.deref.result.now c.in-Inside.helpers c.len.result) _
    (λ f h. λ w t rest r to is from at b. inside_by c.args.icfg.now w rest t c.args.letter r c.args.reading.now to c.in-Inside.proc c.in-Inside.written.items c.in-Inside.helpers c.in-Inside.rows.items
    c.columns-frame.result.now c.deref.result.now c.len.result f (c.act_at.ensures ∙ ap (λ (a : Act). Some (plain_act a)) c.in-Inside.is) c.columns-frame.ensures.value c.deref.ensures.value (search rules) h is from at)
    c.inside_step.result c.inside_step.ensures.step

pub returns-in-Call-clause-step : goal.returns-in-Call-clause-step
returns-in-Call-clause-step c =
    if_ok (IsCallStep c.args.reading.now c.args.returns c.columns-caller.result.now c.columns-callee.result.now c.in-Call.helpers c.len-in-Call.result) _
    (λ f h. λ w t rest r to is from at b. call_by c.args.icfg.now w rest t c.args.letter r c.args.reading.now to c.in-Call.caller c.in-Call.callee c.in-Call.helpers c.in-Call.rows.items c.args.returns
    c.columns-caller.result.now c.columns-callee.result.now c.len-in-Call.result f (c.act_at.ensures ∙ ap (λ (a : Act). Some (plain_act a)) c.in-Call.is) c.columns-caller.ensures.value c.columns-callee.ensures.value (search rules) b h is from at)
    c.call_step.result c.call_step.ensures.step

pub step_back-requires : goal.step_back-requires
step_back-requires c =
    return_known c.args.icfg.now c.args.letter c.in-Back.call c.in-Back.targets.items c.deref-in-Back-2.result.now c.acts-valid.ensures.valid
    (c.act_at.ensures ∙ ap (λ (a : Act). Some (plain_act a)) c.in-Back.is) c.deref-in-Back-2.ensures.value

pub returns-in-Some-clause-step : goal.returns-in-Some-clause-step
returns-in-Some-clause-step c =
    let g = c.args.icfg.now in
    let opened = c.in-Some.opened.now in
    let last = last_call c.args.reading.now.calls.items c.deref-in-Back.result.now opened c.deref-in-Back.ensures.value c.in-Some.ensures.value in
    if_ok (IsStepBack g c.args.reading.now opened c.in-Back.call c.deref-in-Back-2.result.now) _
    (λ f h. λ w t rest r to is from at b. back_by g w rest t c.args.letter r c.args.reading.now to c.in-Back.call c.in-Back.targets.items c.deref-in-Back-2.result.now opened last.0 f
    (c.act_at.ensures ∙ ap (λ (a : Act). Some (plain_act a)) c.in-Back.is) c.deref-in-Back-2.ensures.value last.1 h is from at) c.step_back.result c.step_back.ensures.step
