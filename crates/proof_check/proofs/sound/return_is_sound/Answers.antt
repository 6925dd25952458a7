use Rattle.std.proofs.Common.{◌∙◌, Some, None, ap, sym}
use Rattle.letter_acts.specs.Acts.{plain_act}
use Rattle.proof_check.proofs.SoundLaws.{return_by_act, return_by_none}
use Rattle.proof_check.proofs.sound.return_is_sound.Goals as goal

pub returns-in-Some-Back : goal.returns-in-Some-Back
returns-in-Some-Back c =
    return_by_act c.args.icfg.now c.args.plan.now c.args.exit c.args.before c.args.letter c.args.to _ c.back_is_sound.result
    (sym (ap (λ a. Some (plain_act a)) c.in-Some-Back.field-0-is) ∙ c.in-Some-Back.ensures.value) c.back_is_sound.ensures

pub returns-in-Some-Inside : goal.returns-in-Some-Inside
returns-in-Some-Inside c =
    return_by_none c.args.icfg.now c.args.plan.now c.args.exit c.args.before c.args.letter c.args.to _ c.requires.exit c.requires.before c.requires.end
    (sym (ap (λ a. Some (plain_act a)) c.in-Some-Inside.field-0-is) ∙ c.in-Some-Inside.ensures.value) (λ exit before end h. h)

pub returns-in-Some-Call : goal.returns-in-Some-Call
returns-in-Some-Call c =
    return_by_none c.args.icfg.now c.args.plan.now c.args.exit c.args.before c.args.letter c.args.to _ c.requires.exit c.requires.before c.requires.end
    (sym (ap (λ a. Some (plain_act a)) c.in-Some-Call.field-0-is) ∙ c.in-Some-Call.ensures.value) (λ exit before end h. h)

pub returns-in-None : goal.returns-in-None
returns-in-None c =
    return_by_none c.args.icfg.now c.args.plan.now c.args.exit c.args.before c.args.letter c.args.to None c.requires.exit c.requires.before c.requires.end c.in-None.ensures.value
    (λ exit before end h. h)
