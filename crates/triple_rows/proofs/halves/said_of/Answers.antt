use Rattle.std.proofs.Common.{◌≡◌, ◌+◌, ℕ, false, Err, length, sym, subst}
use Rattle.std.specs.Prelude.{OnOk, slice_index}
use Rattle.lin_rows.specs.declared.types.RowFault.TheVariants.{Past}
use Rattle.letter_acts.specs.Acts.{frame_of}
use Rattle.letter_acts.specs.Invariant.{alphabet_of}
use Rattle.triple_rows.specs.Predicates.{IsOver, formula_of}
use Rattle.triple_rows.specs.Systems.{PlainSystem, PlainFits, said}
use Rattle.triple_rows.specs.Ties.Drafts.{Adds, stated}
use Rattle.triple_rows.specs.Ties.Tables.{IsTable}
use Rattle.triple_rows.proofs.PieceLaws.{sliced, stated_by_table}
use Rattle.triple_rows.proofs.halves.said_of.Goals as goal

pub add_pred-requires-clause-over : goal.add_pred-requires-clause-over
add_pred-requires-clause-over c =
    let n = length (frame_of (alphabet_of c.args.icfg.now) c.args.scoped.now.proc) in
    let table = sliced n (λ k. c.args.first + k) c.deref.result.now c.in_ok-columns.columns.items c.deref.ensures.value c.in_ok-columns.ensures in
    subst (λ (k : ℕ). IsOver k (formula_of c.args.scoped.now.pred)) (sym table.count) c.requires.over

pub add_pred-requires-clause-differ : goal.add_pred-requires-clause-differ
add_pred-requires-clause-differ c =
    let n = length (frame_of (alphabet_of c.args.icfg.now) c.args.scoped.now.proc) in
    (sliced n (λ k. c.args.first + k) c.deref.result.now c.in_ok-columns.columns.items c.deref.ensures.value c.in_ok-columns.ensures).differ

pub returns-clause-adds : goal.returns-clause-adds
returns-clause-adds c =
    let n = length (frame_of (alphabet_of c.args.icfg.now) c.args.scoped.now.proc) in
    let f = formula_of c.args.scoped.now.pred in
    let to : ℕ → ℕ = λ k. c.args.first + k in
    let same : stated false (slice_index c.deref.result.now) f ≡ said to f = stated_by_table false n to c.deref.result.now f c.requires.over
    (sliced n to c.deref.result.now c.in_ok-columns.columns.items c.deref.ensures.value c.in_ok-columns.ensures) in
    subst (λ (p : PlainSystem). OnOk c.add_pred.result (Adds p c.args.draft.now c.add_pred.new.draft)) same c.add_pred.ensures.adds

pub returns-clause-fits : goal.returns-clause-fits
returns-clause-fits c =
    let n = length (frame_of (alphabet_of c.args.icfg.now) c.args.scoped.now.proc) in
    let f = formula_of c.args.scoped.now.pred in
    let to : ℕ → ℕ = λ k. c.args.first + k in
    let same : stated false (slice_index c.deref.result.now) f ≡ said to f = stated_by_table false n to c.deref.result.now f c.requires.over
    (sliced n to c.deref.result.now c.in_ok-columns.columns.items c.deref.ensures.value c.in_ok-columns.ensures) in
    subst (λ (p : PlainSystem). OnOk c.add_pred.result (PlainFits p)) same c.add_pred.ensures.fits

pub returns-clause-past : goal.returns-clause-past
returns-clause-past c =
    let n = length (frame_of (alphabet_of c.args.icfg.now) c.args.scoped.now.proc) in
    let f = formula_of c.args.scoped.now.pred in
    let to : ℕ → ℕ = λ k. c.args.first + k in
    let same : stated false (slice_index c.deref.result.now) f ≡ said to f = stated_by_table false n to c.deref.result.now f c.requires.over
    (sliced n to c.deref.result.now c.in_ok-columns.columns.items c.deref.ensures.value c.in_ok-columns.ensures) in
    subst (λ (p : PlainSystem). c.add_pred.result ≡ Err Past → PlainFits p → ⊥) same c.add_pred.ensures.past
