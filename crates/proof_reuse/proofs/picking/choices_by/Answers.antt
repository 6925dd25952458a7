use Rattle.std.proofs.Common.{◌∙◌, Some, ap}
use Rattle.std.proofs.lemmas.Result.{IfOk-weaker}
use Rattle.letter_acts.specs.declared.acts.Act.{Act}
use Rattle.letter_acts.specs.Acts.{plain_act, inside_act, call_act, back_act}
use Rattle.proof_reuse.specs.Ties.Views.{taken}
use Rattle.proof_reuse.proofs.PickLaws.{choices_at}
use Rattle.proof_reuse.proofs.picking.choices_by.Goals as goal

pub returns-in-Inside : goal.returns-in-Inside
returns-in-Inside c = IfOk-weaker c.inside_choices.result _ _ (λ v s.
    choices_at c.args.icfg.now (taken c.args.earlier.now) c.args.letter (inside_act c.in-Inside.proc c.in-Inside.written.items c.in-Inside.helpers c.in-Inside.rows.items) v.items
    (c.act_at.ensures.value ∙ ap (λ (a : Act). Some (plain_act a)) c.in-Inside.is) s) c.inside_choices.ensures

pub returns-in-Call : goal.returns-in-Call
returns-in-Call c = IfOk-weaker c.call_choices.result _ _ (λ v s.
    choices_at c.args.icfg.now (taken c.args.earlier.now) c.args.letter (call_act c.in-Call.caller c.in-Call.callee c.in-Call.helpers c.in-Call.rows.items) v.items
    (c.act_at.ensures.value ∙ ap (λ (a : Act). Some (plain_act a)) c.in-Call.is) s) c.call_choices.ensures

pub returns-in-Back : goal.returns-in-Back
returns-in-Back c = IfOk-weaker c.return_choices.result _ _ (λ v s.
    choices_at c.args.icfg.now (taken c.args.earlier.now) c.args.letter (back_act c.in-Back.call c.in-Back.targets.items) v.items
    (c.act_at.ensures.value ∙ ap (λ (a : Act). Some (plain_act a)) c.in-Back.is) s) c.return_choices.ensures
