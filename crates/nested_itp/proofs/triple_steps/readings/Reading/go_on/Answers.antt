use Rattle.std.proofs.Common.{◌∙◌, Some, ap, refl, rules}
use Rattle.letter_acts.specs.declared.acts.Act.{Act}
use Rattle.letter_acts.specs.Acts.{plain_act}
use Rattle.nested_itp.proofs.TripleSteps.ReadingLaws.{inside_passed, call_passed, back_passed}
use Rattle.nested_itp.proofs.TripleSteps.RoleLaws.{on_ok}
use Rattle.nested_itp.proofs.triple_steps.readings.Reading.go_on.Goals as goal

pub returns-in-Inside : goal.returns-in-Inside
returns-in-Inside c =
    on_ok _ _
    (λ p. λ w rest r h at. inside_passed c.args.icfg.now w rest c.args.letter r c.args.self.now c.pass_inside.new.self c.in-Inside.proc c.in-Inside.written.items c.in-Inside.helpers
    c.in-Inside.rows.items c.columns.result.now c.deref.result.now c.len.result (c.act_at.ensures ∙ ap (λ (a : Act). Some (plain_act a)) c.in-Inside.is) c.columns.ensures.value c.deref.ensures.value (search rules) h p.letters p.rows p.made p.calls)
    c.pass_inside.result c.pass_inside.ensures

pub returns-in-Call : goal.returns-in-Call
returns-in-Call c =
    on_ok _ _
    (λ p. λ w rest r h at. call_passed c.args.icfg.now w rest c.args.letter r c.args.self.now c.pass_call.new.self c.in-Call.caller c.in-Call.callee c.in-Call.helpers c.in-Call.rows.items
    c.columns-in-Call.result.now c.len-in-Call.result _ (c.act_at.ensures ∙ ap (λ (a : Act). Some (plain_act a)) c.in-Call.is) c.columns-in-Call.ensures.value (search rules) h at p.letters p.rows p.made p.calls refl refl refl)
    c.pass_call.result c.pass_call.ensures

pub returns-in-Back : goal.returns-in-Back
returns-in-Back c =
    on_ok _ _
    (λ p. λ w rest r h at. back_passed c.args.icfg.now w rest c.args.letter r c.args.self.now c.pass_back.new.self c.in-Back.call c.in-Back.targets.items (c.act_at.ensures ∙ ap (λ (a : Act). Some (plain_act a)) c.in-Back.is) h p.letters p.rows p.made p.calls)
    c.pass_back.result c.pass_back.ensures
