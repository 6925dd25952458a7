use Rattle.std.proofs.Common.{◌∙◌, Some, ap}
use Rattle.letter_acts.specs.declared.acts.Act.{Act}
use Rattle.letter_acts.specs.Acts.{plain_act}
use Rattle.triple_rows.proofs.LetterLaws.{inside_asks}
use Rattle.triple_rows.proofs.systems.inside_system.Goals as goal

pub inside_triple-requires-clause-distinct : goal.inside_triple-requires-clause-distinct
inside_triple-requires-clause-distinct c =
    let w = c.in-Inside in
    (inside_asks c.args.icfg.now c.args.letter w.proc w.helpers w.written.items c.deref.result.now w.rows.items c.columns.result.now c.act_at.ensures.valid
    (c.act_at.ensures.value ∙ ap (λ (a : Act). Some (plain_act a)) w.is) c.columns.ensures.value c.deref.ensures.value).distinct

pub inside_triple-requires-clause-exist : goal.inside_triple-requires-clause-exist
inside_triple-requires-clause-exist c =
    let w = c.in-Inside in
    (inside_asks c.args.icfg.now c.args.letter w.proc w.helpers w.written.items c.deref.result.now w.rows.items c.columns.result.now c.act_at.ensures.valid
    (c.act_at.ensures.value ∙ ap (λ (a : Act). Some (plain_act a)) w.is) c.columns.ensures.value c.deref.ensures.value).exist

pub inside_triple-requires-clause-numbers : goal.inside_triple-requires-clause-numbers
inside_triple-requires-clause-numbers c =
    let w = c.in-Inside in
    (inside_asks c.args.icfg.now c.args.letter w.proc w.helpers w.written.items c.deref.result.now w.rows.items c.columns.result.now c.act_at.ensures.valid
    (c.act_at.ensures.value ∙ ap (λ (a : Act). Some (plain_act a)) w.is) c.columns.ensures.value c.deref.ensures.value).numbers
