use Rattle.std.proofs.Common.{◌≡◌, ◌+◌, ℕ, List, true, false, length, refl, sym, subst, rules}
use Rattle.std.specs.Prelude.{slice_index}
use Rattle.letter_acts.specs.Invariant.{written_by}
use Rattle.triple_rows.specs.declared.drafts.Draft.{Draft}
use Rattle.triple_rows.specs.Predicates.{IsOver, formula_of}
use Rattle.triple_rows.specs.Systems.{PlainSystem, PlainFits, said, denied, only_rows, after_column}
use Rattle.letter_acts.specs.FrameRows.Rows.{bounds, types_at}
use Rattle.triple_rows.specs.Ties.Drafts.{Adds, stated, return_ties}
use Rattle.triple_rows.proofs.ListLaws.{all_joined}
use Rattle.triple_rows.proofs.DraftLaws.{adds_all, adds_joined, all_fit}
use Rattle.triple_rows.proofs.PieceLaws.{stated_by_table}
use Rattle.triple_rows.proofs.BuildingLaws.{return_ends, return_parts}
use Rattle.triple_rows.proofs.building.add_return.Goals as goal

pub add_pred-requires-clause-over : goal.add_pred-requires-clause-over
add_pred-requires-clause-over c = subst (λ (n : ℕ). IsOver n (formula_of c.args.exit.now)) (sym c.requires.tables.exit.count) c.requires.exit_over

pub add_pred-requires-clause-differ : goal.add_pred-requires-clause-differ
add_pred-requires-clause-differ c = c.requires.tables.exit.differ

pub add_pred-requires-2-clause-over : goal.add_pred-requires-2-clause-over
add_pred-requires-2-clause-over c = subst (λ (n : ℕ). IsOver n (formula_of c.args.before.now)) (sym c.requires.tables.call.count) c.requires.before_over

pub add_pred-requires-2-clause-differ : goal.add_pred-requires-2-clause-differ
add_pred-requires-2-clause-differ c = c.requires.tables.call.differ

pub add_pred-requires-3-clause-over : goal.add_pred-requires-3-clause-over
add_pred-requires-3-clause-over c = subst (λ (n : ℕ). IsOver n (formula_of c.args.to.now)) (sym c.requires.tables.end.count) c.requires.to_over

pub add_pred-requires-3-clause-differ : goal.add_pred-requires-3-clause-differ
add_pred-requires-3-clause-differ c = c.requires.tables.end.differ

pub returns-in_err-add_pred-clause-past : goal.returns-in_err-add_pred-clause-past
returns-in_err-add_pred-clause-past c = λ e h.
    let caller = c.args.caller.now in
    let callee = c.args.callee.now in
    let targets = c.args.targets.now in
    let m = length callee in
    let n = length caller in
    let written = written_by caller targets in
    let after : ℕ → ℕ = after_column m (m + n) written in
    let exit = formula_of c.args.exit.now in
    let before = formula_of c.args.before.now in
    let to = formula_of c.args.to.now in
    let first : stated false (slice_index c.args.at_exit.now) exit ≡ said (λ c. c) exit =
    stated_by_table false m (λ c. c) c.args.at_exit.now exit c.requires.exit_over c.requires.tables.exit in
    let second : stated false (slice_index c.args.at_call.now) before ≡ said (λ c. m + c) before =
    stated_by_table false n (λ c. m + c) c.args.at_call.now before c.requires.before_over c.requires.tables.call in
    let last : stated true (slice_index c.args.at_end.now) to ≡ denied after to =
    stated_by_table true n after c.args.at_end.now to c.requires.to_over c.requires.tables.end in
    let parts = (all_fit (return_parts caller callee c.args.rows.now targets exit before to)).0 h in
    c.in_err-add_pred.ensures.past (search rules) (subst PlainFits (sym first) parts.0)

pub returns-in_err-add_pred-2-clause-past : goal.returns-in_err-add_pred-2-clause-past
returns-in_err-add_pred-2-clause-past c = λ e h.
    let caller = c.args.caller.now in
    let callee = c.args.callee.now in
    let targets = c.args.targets.now in
    let m = length callee in
    let n = length caller in
    let written = written_by caller targets in
    let after : ℕ → ℕ = after_column m (m + n) written in
    let exit = formula_of c.args.exit.now in
    let before = formula_of c.args.before.now in
    let to = formula_of c.args.to.now in
    let first : stated false (slice_index c.args.at_exit.now) exit ≡ said (λ c. c) exit =
    stated_by_table false m (λ c. c) c.args.at_exit.now exit c.requires.exit_over c.requires.tables.exit in
    let second : stated false (slice_index c.args.at_call.now) before ≡ said (λ c. m + c) before =
    stated_by_table false n (λ c. m + c) c.args.at_call.now before c.requires.before_over c.requires.tables.call in
    let last : stated true (slice_index c.args.at_end.now) to ≡ denied after to =
    stated_by_table true n after c.args.at_end.now to c.requires.to_over c.requires.tables.end in
    let parts = (all_fit (return_parts caller callee c.args.rows.now targets exit before to)).0 h in
    c.in_err-add_pred-2.ensures.past (search rules) (subst PlainFits (sym second) parts.1.0)

pub returns-in_err-add_pred-3-clause-past : goal.returns-in_err-add_pred-3-clause-past
returns-in_err-add_pred-3-clause-past c = λ e h.
    let caller = c.args.caller.now in
    let callee = c.args.callee.now in
    let targets = c.args.targets.now in
    let m = length callee in
    let n = length caller in
    let written = written_by caller targets in
    let after : ℕ → ℕ = after_column m (m + n) written in
    let exit = formula_of c.args.exit.now in
    let before = formula_of c.args.before.now in
    let to = formula_of c.args.to.now in
    let first : stated false (slice_index c.args.at_exit.now) exit ≡ said (λ c. c) exit =
    stated_by_table false m (λ c. c) c.args.at_exit.now exit c.requires.exit_over c.requires.tables.exit in
    let second : stated false (slice_index c.args.at_call.now) before ≡ said (λ c. m + c) before =
    stated_by_table false n (λ c. m + c) c.args.at_call.now before c.requires.before_over c.requires.tables.call in
    let last : stated true (slice_index c.args.at_end.now) to ≡ denied after to =
    stated_by_table true n after c.args.at_end.now to c.requires.to_over c.requires.tables.end in
    let parts = (all_fit (return_parts caller callee c.args.rows.now targets exit before to)).0 h in
    c.in_err-add_pred-3.ensures.past (search rules) (subst PlainFits (sym last) parts.1.1.1.1.1.1.1.0)

pub returns-clause-adds : goal.returns-clause-adds
returns-clause-adds c =
    let caller = c.args.caller.now in
    let callee = c.args.callee.now in
    let targets = c.args.targets.now in
    let m = length callee in
    let n = length caller in
    let written = written_by caller targets in
    let after : ℕ → ℕ = after_column m (m + n) written in
    let exit = formula_of c.args.exit.now in
    let before = formula_of c.args.before.now in
    let to = formula_of c.args.to.now in
    let first : stated false (slice_index c.args.at_exit.now) exit ≡ said (λ c. c) exit =
    stated_by_table false m (λ c. c) c.args.at_exit.now exit c.requires.exit_over c.requires.tables.exit in
    let second : stated false (slice_index c.args.at_call.now) before ≡ said (λ c. m + c) before =
    stated_by_table false n (λ c. m + c) c.args.at_call.now before c.requires.before_over c.requires.tables.call in
    let last : stated true (slice_index c.args.at_end.now) to ≡ denied after to =
    stated_by_table true n after c.args.at_end.now to c.requires.to_over c.requires.tables.end in
    let d0 : Draft = c.args.draft.now in
    let d1 : Draft = c.add_pred.new.draft in
    let d2 : Draft = c.add_pred-2.new.draft in
    let d3 : Draft = c.add_return_ties.new.draft in
    let d4 : Draft = c.add_pred-3.new.draft in
    let d5 : Draft = c.add_frame_bounds.new.draft in
    let d6 : Draft = c.add_frame_bounds-2.new.draft in
    let d7 : Draft = c.add_written_bounds.new.draft in
    adds_all (return_parts caller callee c.args.rows.now targets exit before to) d0 d7 (
      d1,
      subst (λ (p : PlainSystem). Adds p d0 d1) first c.in_ok-add_pred.ensures.adds,
      (
        d2,
        subst (λ (p : PlainSystem). Adds p d1 d2) second c.in_ok-add_pred-2.ensures.adds,
        adds_joined (return_ties caller callee c.args.rows.now targets) (return_ends caller callee targets to) d2 d3 d7 c.in_ok-add_return_ties.ensures.adds (
          d4,
          subst (λ (p : PlainSystem). Adds p d3 d4) last c.in_ok-add_pred-3.ensures.adds,
          (
            d5,
            c.in_ok-add_frame_bounds.ensures.adds,
            (
              d6,
              c.in_ok-add_frame_bounds-2.ensures.adds,
              (
                d7,
                subst (λ (ws : List ℕ). Adds (only_rows (bounds (m + n) (types_at caller ws))) d6 d7) c.requires.written c.in_ok-add_written_bounds.ensures.adds,
                refl,
              ),
            ),
          ),
        ),
      ),
    )

pub returns-clause-fits : goal.returns-clause-fits
returns-clause-fits c =
    let caller = c.args.caller.now in
    let callee = c.args.callee.now in
    let targets = c.args.targets.now in
    let m = length callee in
    let n = length caller in
    let written = written_by caller targets in
    let after : ℕ → ℕ = after_column m (m + n) written in
    let exit = formula_of c.args.exit.now in
    let before = formula_of c.args.before.now in
    let to = formula_of c.args.to.now in
    let first : stated false (slice_index c.args.at_exit.now) exit ≡ said (λ c. c) exit =
    stated_by_table false m (λ c. c) c.args.at_exit.now exit c.requires.exit_over c.requires.tables.exit in
    let second : stated false (slice_index c.args.at_call.now) before ≡ said (λ c. m + c) before =
    stated_by_table false n (λ c. m + c) c.args.at_call.now before c.requires.before_over c.requires.tables.call in
    let last : stated true (slice_index c.args.at_end.now) to ≡ denied after to =
    stated_by_table true n after c.args.at_end.now to c.requires.to_over c.requires.tables.end in
    (all_fit (return_parts caller callee c.args.rows.now targets exit before to)).1 (
      subst PlainFits first c.in_ok-add_pred.ensures.fits,
      (
        subst PlainFits second c.in_ok-add_pred-2.ensures.fits,
        (all_joined PlainFits (return_ties caller callee c.args.rows.now targets) (return_ends caller callee targets to)).1 (
          c.in_ok-add_return_ties.ensures.fits,
          (
            subst PlainFits last c.in_ok-add_pred-3.ensures.fits,
            (
              c.in_ok-add_frame_bounds.ensures.fits,
              (
                c.in_ok-add_frame_bounds-2.ensures.fits,
                (
                  subst (λ (ws : List ℕ). PlainFits (only_rows (bounds (m + n) (types_at caller ws)))) c.requires.written c.in_ok-add_written_bounds.ensures.fits,
                  tt,
                ),
              ),
            ),
          ),
        ),
      ),
    )
