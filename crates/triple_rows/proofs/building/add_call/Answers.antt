use Rattle.std.proofs.Common.{◌≡◌, ◌+◌, ℕ, List, true, false, length, refl, sym, subst, rules}
use Rattle.std.specs.Prelude.{slice_index}
use Rattle.lin_rows.specs.Rows.{LinearRow}
use Rattle.letter_acts.specs.Frames.{globals_of, olds_of}
use Rattle.triple_rows.specs.declared.drafts.Draft.{Draft}
use Rattle.triple_rows.specs.Predicates.{IsOver, formula_of}
use Rattle.triple_rows.specs.Systems.{PlainSystem, PlainFits, said, denied, only_rows}
use Rattle.triple_rows.specs.Ties.Drafts.{Adds, stated}
use Rattle.triple_rows.proofs.DraftLaws.{adds_all, all_fit}
use Rattle.triple_rows.proofs.PieceLaws.{stated_by_table, ties_by_tables, within_tables}
use Rattle.triple_rows.proofs.BuildingLaws.{call_parts}
use Rattle.triple_rows.proofs.building.add_call.Goals as goal

pub add_pred-requires-clause-over : goal.add_pred-requires-clause-over
add_pred-requires-clause-over c = subst (λ (n : ℕ). IsOver n (formula_of c.args.from.now)) (sym c.requires.before.count) c.requires.from_over

pub add_pred-requires-clause-differ : goal.add_pred-requires-clause-differ
add_pred-requires-clause-differ c = c.requires.before.differ

pub add_pred-requires-2-clause-over : goal.add_pred-requires-2-clause-over
add_pred-requires-2-clause-over c = subst (λ (n : ℕ). IsOver n (formula_of c.args.to.now)) (sym c.requires.after.count) c.requires.to_over

pub add_pred-requires-2-clause-differ : goal.add_pred-requires-2-clause-differ
add_pred-requires-2-clause-differ c = c.requires.after.differ

pub add_class-requires-clause-within : goal.add_class-requires-clause-within
add_class-requires-clause-within c =
    let n = length c.args.caller.now in
    within_tables (length c.args.callee.now) n (λ c. n + c) (λ c. c) c.args.after.now c.args.before.now (λ (c : ℕ). c) (λ c. c) (globals_of c.args.callee.now)
    c.requires.after c.requires.before c.requires.globals_within

pub add_olds-requires-clause-within : goal.add_olds-requires-clause-within
add_olds-requires-clause-within c =
    let n = length c.args.caller.now in
    within_tables (length c.args.callee.now) n (λ c. n + c) (λ c. c) c.args.after.now c.args.before.now (λ (o : ℕ × ℕ). o.0) (λ o. o.1) (olds_of c.args.callee.now)
    c.requires.after c.requires.before c.requires.olds_within

pub returns-in_err-add_pred-clause-past : goal.returns-in_err-add_pred-clause-past
returns-in_err-add_pred-clause-past c = λ e h.
    let from = formula_of c.args.from.now in
    let first : stated false (slice_index c.args.before.now) from ≡ said (λ c. c) from =
    stated_by_table false (length c.args.caller.now) (λ c. c) c.args.before.now from c.requires.from_over c.requires.before in
    let parts = (all_fit (call_parts c.args.caller.now c.args.callee.now c.args.rows.now from (formula_of c.args.to.now))).0 h in
    c.in_err-add_pred.ensures.past (search rules) (subst PlainFits (sym first) parts.0)

pub returns-in_err-add_pred-2-clause-past : goal.returns-in_err-add_pred-2-clause-past
returns-in_err-add_pred-2-clause-past c = λ e h.
    let n = length c.args.caller.now in
    let to = formula_of c.args.to.now in
    let last : stated true (slice_index c.args.after.now) to ≡ denied (λ c. n + c) to =
    stated_by_table true (length c.args.callee.now) (λ c. n + c) c.args.after.now to c.requires.to_over c.requires.after in
    let parts = (all_fit (call_parts c.args.caller.now c.args.callee.now c.args.rows.now (formula_of c.args.from.now) to)).0 h in
    c.in_err-add_pred-2.ensures.past (search rules) (subst PlainFits (sym last) parts.1.1.1.1.0)

pub returns-clause-adds : goal.returns-clause-adds
returns-clause-adds c =
    let n = length c.args.caller.now in
    let m = length c.args.callee.now in
    let from = formula_of c.args.from.now in
    let to = formula_of c.args.to.now in
    let parts : List PlainSystem = call_parts c.args.caller.now c.args.callee.now c.args.rows.now from to in
    let first : stated false (slice_index c.args.before.now) from ≡ said (λ c. c) from =
    stated_by_table false n (λ c. c) c.args.before.now from c.requires.from_over c.requires.before in
    let last : stated true (slice_index c.args.after.now) to ≡ denied (λ c. n + c) to =
    stated_by_table true m (λ c. n + c) c.args.after.now to c.requires.to_over c.requires.after in
    let globals = ties_by_tables m n (λ c. n + c) (λ c. c) c.args.after.now c.args.before.now (λ (c : ℕ). c) (λ c. c) (globals_of c.args.callee.now) c.requires.globals_within
    c.requires.after c.requires.before in
    let olds = ties_by_tables m n (λ c. n + c) (λ c. c) c.args.after.now c.args.before.now (λ (o : ℕ × ℕ). o.0) (λ o. o.1) (olds_of c.args.callee.now) c.requires.olds_within
    c.requires.after c.requires.before in
    let d0 : Draft = c.args.draft.now in
    let d1 : Draft = c.add_pred.new.draft in
    let d2 : Draft = c.add_class.new.draft in
    let d3 : Draft = c.add_olds.new.draft in
    let d4 : Draft = c.add_copies.new.draft in
    let d5 : Draft = c.add_pred-2.new.draft in
    let d6 : Draft = c.add_frame_bounds.new.draft in
    let d7 : Draft = c.add_frame_bounds-2.new.draft in
    adds_all parts d0 d7 (
      d1,
      subst (λ (p : PlainSystem). Adds p d0 d1) first c.in_ok-add_pred.ensures.adds,
      (
        d2,
        subst (λ (rows : List LinearRow). Adds (only_rows rows) d1 d2) globals c.in_ok-add_class.ensures.adds,
        (
          d3,
          subst (λ (rows : List LinearRow). Adds (only_rows rows) d2 d3) olds c.in_ok-add_olds.ensures.adds,
          (
            d4,
            c.in_ok-add_copies.ensures.adds,
            (
              d5,
              subst (λ (p : PlainSystem). Adds p d4 d5) last c.in_ok-add_pred-2.ensures.adds,
              (
                d6,
                c.in_ok-add_frame_bounds.ensures.adds,
                (
                  d7,
                  c.in_ok-add_frame_bounds-2.ensures.adds,
                  refl,
                ),
              ),
            ),
          ),
        ),
      ),
    )

pub returns-clause-fits : goal.returns-clause-fits
returns-clause-fits c =
    let n = length c.args.caller.now in
    let m = length c.args.callee.now in
    let from = formula_of c.args.from.now in
    let to = formula_of c.args.to.now in
    let first : stated false (slice_index c.args.before.now) from ≡ said (λ c. c) from =
    stated_by_table false n (λ c. c) c.args.before.now from c.requires.from_over c.requires.before in
    let last : stated true (slice_index c.args.after.now) to ≡ denied (λ c. n + c) to =
    stated_by_table true m (λ c. n + c) c.args.after.now to c.requires.to_over c.requires.after in
    let globals = ties_by_tables m n (λ c. n + c) (λ c. c) c.args.after.now c.args.before.now (λ (c : ℕ). c) (λ c. c) (globals_of c.args.callee.now) c.requires.globals_within
    c.requires.after c.requires.before in
    let olds = ties_by_tables m n (λ c. n + c) (λ c. c) c.args.after.now c.args.before.now (λ (o : ℕ × ℕ). o.0) (λ o. o.1) (olds_of c.args.callee.now) c.requires.olds_within
    c.requires.after c.requires.before in
    (all_fit (call_parts c.args.caller.now c.args.callee.now c.args.rows.now from to)).1 (
      subst PlainFits first c.in_ok-add_pred.ensures.fits,
      (
        subst (λ (rows : List LinearRow). PlainFits (only_rows rows)) globals c.in_ok-add_class.ensures.fits,
        (
          subst (λ (rows : List LinearRow). PlainFits (only_rows rows)) olds c.in_ok-add_olds.ensures.fits,
          (
            c.in_ok-add_copies.ensures.fits,
            (
              subst PlainFits last c.in_ok-add_pred-2.ensures.fits,
              (
                c.in_ok-add_frame_bounds.ensures.fits,
                (c.in_ok-add_frame_bounds-2.ensures.fits, tt),
              ),
            ),
          ),
        ),
      ),
    )
