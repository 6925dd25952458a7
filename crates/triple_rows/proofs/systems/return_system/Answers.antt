use Rattle.std.proofs.Common.{◌≡◌, ◌∙◌, Some, Err, slice_get, ap, subst}
use Rattle.std.specs.Prelude.{IfOk, OnOk}
use Rattle.lin_rows.specs.declared.types.RowFault.TheVariants.{Past}
use Rattle.letter_acts.specs.declared.acts.Act.{Act}
use Rattle.letter_acts.specs.Acts.{plain_act}
use Rattle.letter_acts.specs.Invariant.{alphabet_of}
use Rattle.triple_rows.specs.Predicates.{formula_of}
use Rattle.triple_rows.specs.Systems.{PlainSystem, PlainFits, IsSystem}
use Rattle.triple_rows.proofs.LetterLaws.{return_asks, return_system_is}
use Rattle.triple_rows.proofs.systems.return_system.Goals as goal

pub return_triple-requires-clause-known : goal.return_triple-requires-clause-known
return_triple-requires-clause-known c =
    let w = c.in-Call in
    (return_asks c.args.icfg.now c.args.letter c.args.call w.caller w.callee w.helpers w.rows.items c.deref.result.now c.args.targets.now c.columns.result.now c.columns-in-Call.result.now
    c.args.exit.now c.args.before.now c.args.to.now c.act_at.ensures.valid c.requires.is_return (c.act_at.ensures.value ∙ ap (λ (a : Act). Some (plain_act a)) w.is) c.requires.agrees
    c.columns.ensures.value c.columns-in-Call.ensures.value c.deref.ensures.value).known

pub return_triple-requires-clause-numbers : goal.return_triple-requires-clause-numbers
return_triple-requires-clause-numbers c =
    let w = c.in-Call in
    (return_asks c.args.icfg.now c.args.letter c.args.call w.caller w.callee w.helpers w.rows.items c.deref.result.now c.args.targets.now c.columns.result.now c.columns-in-Call.result.now
    c.args.exit.now c.args.before.now c.args.to.now c.act_at.ensures.valid c.requires.is_return (c.act_at.ensures.value ∙ ap (λ (a : Act). Some (plain_act a)) w.is) c.requires.agrees
    c.columns.ensures.value c.columns-in-Call.ensures.value c.deref.ensures.value).numbers

pub returns-clause-value : goal.returns-clause-value
returns-clause-value c =
    let w = c.in-Call in
    let e = return_system_is (alphabet_of c.args.icfg.now) w.caller w.callee w.helpers w.rows.items c.deref.result.now c.args.targets.now c.columns.result.now c.columns-in-Call.result.now
    (formula_of c.args.exit.now.pred) (formula_of c.args.before.now.pred) (formula_of c.args.to.now.pred) (slice_get c.args.icfg.now.acts c.args.call)
    (c.act_at.ensures.value ∙ ap (λ (a : Act). Some (plain_act a)) w.is) c.columns.ensures.value c.columns-in-Call.ensures.value c.deref.ensures.value in
    subst (λ (p : PlainSystem). IfOk c.return_triple.result (IsSystem p)) e c.return_triple.ensures.value

pub returns-clause-fits : goal.returns-clause-fits
returns-clause-fits c =
    let w = c.in-Call in
    let e = return_system_is (alphabet_of c.args.icfg.now) w.caller w.callee w.helpers w.rows.items c.deref.result.now c.args.targets.now c.columns.result.now c.columns-in-Call.result.now
    (formula_of c.args.exit.now.pred) (formula_of c.args.before.now.pred) (formula_of c.args.to.now.pred) (slice_get c.args.icfg.now.acts c.args.call)
    (c.act_at.ensures.value ∙ ap (λ (a : Act). Some (plain_act a)) w.is) c.columns.ensures.value c.columns-in-Call.ensures.value c.deref.ensures.value in
    subst (λ (p : PlainSystem). OnOk c.return_triple.result (PlainFits p)) e c.return_triple.ensures.fits

pub returns-clause-past : goal.returns-clause-past
returns-clause-past c =
    let w = c.in-Call in
    let e = return_system_is (alphabet_of c.args.icfg.now) w.caller w.callee w.helpers w.rows.items c.deref.result.now c.args.targets.now c.columns.result.now c.columns-in-Call.result.now
    (formula_of c.args.exit.now.pred) (formula_of c.args.before.now.pred) (formula_of c.args.to.now.pred) (slice_get c.args.icfg.now.acts c.args.call)
    (c.act_at.ensures.value ∙ ap (λ (a : Act). Some (plain_act a)) w.is) c.columns.ensures.value c.columns-in-Call.ensures.value c.deref.ensures.value in
    subst (λ (p : PlainSystem). c.return_triple.result ≡ Err Past → PlainFits p → ⊥) e c.return_triple.ensures.past
