use Rattle.std.proofs.Common.{◌∙◌, Some, ap}
use Rattle.std.specs.Prelude.{OnOk}
use Rattle.std.proofs.Common.{subst}
use Rattle.letter_acts.specs.declared.acts.Act.{Act}
use Rattle.letter_acts.specs.Acts.{plain_act}
use Rattle.path_rows.specs.Versions.{Part}
use Rattle.path_rows.specs.Drafts.{Reads, stage_of}
use Rattle.path_rows.proofs.GoingLemmas.{letter_within, inside_asks, inside_gives, call_asks, call_gives, back_asks, back_gives}
use Rattle.path_rows.proofs.drafts.Draft.read.Goals as goal

pub act_at-requires : goal.act_at-requires
act_at-requires c = letter_within c.args.icfg.now c.requires.valid c.args.letter (stage_of c.args.self.now) c.requires.goes

pub read_inside-requires-clause-fits : goal.read_inside-requires-clause-fits
read_inside-requires-clause-fits c =
    let w = c.in-Inside in
    inside_asks c.args.icfg.now c.requires.valid c.args.letter (stage_of c.args.self.now) w.proc w.written.items w.helpers w.rows.items c.deref.result.now c.deref-in-Inside.result.now
    c.requires.goes (c.act_at.ensures.value ∙ ap (λ (a : Act). Some (plain_act a)) w.is) c.deref.ensures.value c.deref-in-Inside.ensures.value

pub returns-in-Inside-clause-value : goal.returns-in-Inside-clause-value
returns-in-Inside-clause-value c =
    let w = c.in-Inside in
    subst (λ (p : Part). OnOk c.read_inside.result (Reads p c.args.number c.args.self.now c.read_inside.new.self))
    (inside_gives c.args.icfg.now c.requires.valid c.args.letter (stage_of c.args.self.now) w.proc w.written.items w.helpers w.rows.items c.columns-frame.result.now c.deref.result.now
    c.deref-in-Inside.result.now c.requires.goes (c.act_at.ensures.value ∙ ap (λ (a : Act). Some (plain_act a)) w.is) c.columns-frame.ensures.value c.deref.ensures.value
    c.deref-in-Inside.ensures.value)
    c.read_inside.ensures.value

pub read_call-requires-clause-fits : goal.read_call-requires-clause-fits
read_call-requires-clause-fits c =
    let w = c.in-Call in
    call_asks c.args.icfg.now c.requires.valid c.args.letter (stage_of c.args.self.now) w.caller w.callee w.helpers w.rows.items c.columns-frame-in-Call.result.now
    c.deref-in-Call.result.now c.requires.goes (c.act_at.ensures.value ∙ ap (λ (a : Act). Some (plain_act a)) w.is) c.columns-frame-in-Call.ensures.value c.deref-in-Call.ensures.value

pub returns-in-Call-clause-value : goal.returns-in-Call-clause-value
returns-in-Call-clause-value c =
    let w = c.in-Call in
    subst (λ (p : Part). OnOk c.read_call.result (Reads p c.args.number c.args.self.now c.read_call.new.self))
    (call_gives c.args.icfg.now c.requires.valid c.args.letter (stage_of c.args.self.now) w.caller w.callee w.helpers w.rows.items c.columns-frame-in-Call.result.now
    c.deref-in-Call.result.now c.requires.goes (c.act_at.ensures.value ∙ ap (λ (a : Act). Some (plain_act a)) w.is) c.columns-frame-in-Call.ensures.value c.deref-in-Call.ensures.value)
    c.read_call.ensures.value

pub read_back-requires-clause-fits : goal.read_back-requires-clause-fits
read_back-requires-clause-fits c =
    let w = c.in-Back in
    back_asks c.args.icfg.now c.requires.valid c.args.letter (stage_of c.args.self.now) w.call w.targets.items c.deref-in-Back.result.now c.requires.goes
    (c.act_at.ensures.value ∙ ap (λ (a : Act). Some (plain_act a)) w.is) c.deref-in-Back.ensures.value

pub returns-in-Back-clause-value : goal.returns-in-Back-clause-value
returns-in-Back-clause-value c =
    let w = c.in-Back in
    subst (λ (p : Part). OnOk c.read_back.result (Reads p c.args.number c.args.self.now c.read_back.new.self))
    (back_gives c.args.icfg.now c.requires.valid c.args.letter (stage_of c.args.self.now) w.call w.targets.items c.deref-in-Back.result.now c.requires.goes
    (c.act_at.ensures.value ∙ ap (λ (a : Act). Some (plain_act a)) w.is) c.deref-in-Back.ensures.value)
    c.read_back.ensures.value
