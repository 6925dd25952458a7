use Rattle.std.proofs.Common.{◌∙◌, Some, ap}
use Rattle.letter_acts.specs.declared.acts.Act.{Act}
use Rattle.letter_acts.specs.Acts.{plain_act}
use Rattle.triple_rows.proofs.LetterLaws.{call_asks}
use Rattle.triple_rows.proofs.systems.call_system.Goals as goal

pub call_triple-requires-clause-globals_within : goal.call_triple-requires-clause-globals_within
call_triple-requires-clause-globals_within c =
    let w = c.in-Call in
    (call_asks c.args.icfg.now c.args.letter w.caller w.callee w.helpers w.rows.items c.columns.result.now c.columns-in-Call.result.now c.act_at.ensures.valid
    (c.act_at.ensures.value ∙ ap (λ (a : Act). Some (plain_act a)) w.is) c.columns.ensures.value c.columns-in-Call.ensures.value).globals

pub call_triple-requires-clause-olds_within : goal.call_triple-requires-clause-olds_within
call_triple-requires-clause-olds_within c =
    let w = c.in-Call in
    (call_asks c.args.icfg.now c.args.letter w.caller w.callee w.helpers w.rows.items c.columns.result.now c.columns-in-Call.result.now c.act_at.ensures.valid
    (c.act_at.ensures.value ∙ ap (λ (a : Act). Some (plain_act a)) w.is) c.columns.ensures.value c.columns-in-Call.ensures.value).olds

pub call_triple-requires-clause-numbers : goal.call_triple-requires-clause-numbers
call_triple-requires-clause-numbers c =
    let w = c.in-Call in
    (call_asks c.args.icfg.now c.args.letter w.caller w.callee w.helpers w.rows.items c.columns.result.now c.columns-in-Call.result.now c.act_at.ensures.valid
    (c.act_at.ensures.value ∙ ap (λ (a : Act). Some (plain_act a)) w.is) c.columns.ensures.value c.columns-in-Call.ensures.value).numbers
