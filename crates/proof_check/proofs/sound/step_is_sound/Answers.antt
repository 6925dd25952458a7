use Rattle.std.proofs.Common.{◌∙◌, Some, None, ap, sym}
use Rattle.letter_acts.specs.Acts.{plain_act}
use Rattle.proof_check.proofs.SoundLaws.{step_by_act, step_by_none}
use Rattle.proof_check.proofs.sound.step_is_sound.Goals as goal

pub returns-in-Some-Inside : goal.returns-in-Some-Inside
returns-in-Some-Inside c =
    step_by_act c.args.icfg.now c.args.plan.now c.args.from c.args.letter c.args.to _ c.inside_is_sound.result
    (sym (ap (λ a. Some (plain_act a)) c.in-Some-Inside.field-0-is) ∙ c.in-Some-Inside.ensures.value) c.inside_is_sound.ensures

pub returns-in-Some-Call : goal.returns-in-Some-Call
returns-in-Some-Call c =
    step_by_act c.args.icfg.now c.args.plan.now c.args.from c.args.letter c.args.to _ c.call_is_sound.result
    (sym (ap (λ a. Some (plain_act a)) c.in-Some-Call.field-0-is) ∙ c.in-Some-Call.ensures.value) c.call_is_sound.ensures

pub returns-in-Some-Back : goal.returns-in-Some-Back
returns-in-Some-Back c =
    step_by_none c.args.icfg.now c.args.plan.now c.args.from c.args.letter c.args.to _ c.requires.before c.requires.end
    (sym (ap (λ a. Some (plain_act a)) c.in-Some-Back.field-0-is) ∙ c.in-Some-Back.ensures.value) (λ before end h. h)

pub returns-in-None : goal.returns-in-None
returns-in-None c =
    step_by_none c.args.icfg.now c.args.plan.now c.args.from c.args.letter c.args.to None c.requires.before c.requires.end c.in-None.ensures.value (λ before end h. h)
