use Rattle.std.proofs.Common.{◌≡◌, ◌+◌, ℕ, List, [], ◌∷◌, true, false, length, refl, sym, subst, rules}
use Rattle.std.specs.Prelude.{slice_index}
use Rattle.triple_rows.specs.declared.drafts.Draft.{Draft}
use Rattle.triple_rows.specs.Predicates.{IsOver, formula_of}
use Rattle.triple_rows.specs.Systems.{PlainSystem, PlainFits, all_systems, said, denied, after_column, only_rows}
use Rattle.letter_acts.specs.FrameRows.Rows.{bounds, types_of, types_at}
use Rattle.triple_rows.specs.Ties.Drafts.{Adds, stated}
use Rattle.triple_rows.proofs.DraftLaws.{adds_all, draft_is, all_fit}
use Rattle.triple_rows.proofs.PieceLaws.{sliced, from_first, stated_by_table}
use Rattle.triple_rows.proofs.building.inside_triple.Goals as goal

pub add_pred-requires-clause-over : goal.add_pred-requires-clause-over
add_pred-requires-clause-over c =
    let table = sliced (length c.args.frame.now) (λ c. 0 + c) c.deref.result.now c.in_ok-before.before.items c.deref.ensures.value c.in_ok-before.ensures.table in
    subst (λ (n : ℕ). IsOver n (formula_of c.args.from.now)) (sym table.count) c.requires.from_over

pub add_pred-requires-clause-differ : goal.add_pred-requires-clause-differ
add_pred-requires-clause-differ c =
    (sliced (length c.args.frame.now) (λ c. 0 + c) c.deref.result.now c.in_ok-before.before.items c.deref.ensures.value c.in_ok-before.ensures.table).differ

pub add_pred-requires-2-clause-over : goal.add_pred-requires-2-clause-over
add_pred-requires-2-clause-over c =
    let n = length c.args.frame.now in
    let table = sliced n (after_column 0 n c.args.written.now) c.deref-2.result.now c.in_ok-after.after.items c.deref-2.ensures.value c.in_ok-after.ensures in
    subst (λ (k : ℕ). IsOver k (formula_of c.args.to.now)) (sym table.count) c.requires.to_over

pub add_pred-requires-2-clause-differ : goal.add_pred-requires-2-clause-differ
add_pred-requires-2-clause-differ c =
    let n = length c.args.frame.now in
    (sliced n (after_column 0 n c.args.written.now) c.deref-2.result.now c.in_ok-after.after.items c.deref-2.ensures.value c.in_ok-after.ensures).differ

pub returns-in_err-add_pred-clause-past : goal.returns-in_err-add_pred-clause-past
returns-in_err-add_pred-clause-past c = λ e h.
    let frame = c.args.frame.now in
    let n = length frame in
    let from = formula_of c.args.from.now in
    let to = formula_of c.args.to.now in
    let first : stated false (slice_index c.deref.result.now) from ≡ said (λ c. c) from =
    stated_by_table false n (λ c. c) c.deref.result.now from c.requires.from_over
    (from_first n c.deref.result.now (sliced n (λ c. 0 + c) c.deref.result.now c.in_ok-before.before.items c.deref.ensures.value c.in_ok-before.ensures.table)) in
    let parts = (all_fit (
    said (λ c. c) from ∷
    only_rows c.args.rows.now ∷
    denied (after_column 0 n c.args.written.now) to ∷
    only_rows (bounds 0 (types_of frame)) ∷
    only_rows (bounds n (types_at frame c.args.written.now)) ∷
    [])).0 h in
    c.in_err-add_pred.ensures.past (search rules) (subst PlainFits (sym first) parts.0)

pub returns-in_err-add_pred-2-clause-past : goal.returns-in_err-add_pred-2-clause-past
returns-in_err-add_pred-2-clause-past c = λ e h.
    let frame = c.args.frame.now in
    let n = length frame in
    let from = formula_of c.args.from.now in
    let to = formula_of c.args.to.now in
    let after = after_column 0 n c.args.written.now in
    let last : stated true (slice_index c.deref-2.result.now) to ≡ denied after to =
    stated_by_table true n after c.deref-2.result.now to c.requires.to_over
    (sliced n after c.deref-2.result.now c.in_ok-after.after.items c.deref-2.ensures.value c.in_ok-after.ensures) in
    let parts = (all_fit (
    said (λ c. c) from ∷
    only_rows c.args.rows.now ∷
    denied (after_column 0 n c.args.written.now) to ∷
    only_rows (bounds 0 (types_of frame)) ∷
    only_rows (bounds n (types_at frame c.args.written.now)) ∷
    [])).0 h in
    c.in_err-add_pred-2.ensures.past (search rules) (subst PlainFits (sym last) parts.1.1.0)

pub returns-clause-value : goal.returns-clause-value
returns-clause-value c =
    let frame = c.args.frame.now in
    let n = length frame in
    let from = formula_of c.args.from.now in
    let to = formula_of c.args.to.now in
    let after = after_column 0 n c.args.written.now in
    let first : stated false (slice_index c.deref.result.now) from ≡ said (λ c. c) from =
    stated_by_table false n (λ c. c) c.deref.result.now from c.requires.from_over
    (from_first n c.deref.result.now (sliced n (λ c. 0 + c) c.deref.result.now c.in_ok-before.before.items c.deref.ensures.value c.in_ok-before.ensures.table)) in
    let last : stated true (slice_index c.deref-2.result.now) to ≡ denied after to =
    stated_by_table true n after c.deref-2.result.now to c.requires.to_over
    (sliced n after c.deref-2.result.now c.in_ok-after.after.items c.deref-2.ensures.value c.in_ok-after.ensures) in
    let parts : List PlainSystem =
    (said (λ c. c) from ∷
    only_rows c.args.rows.now ∷
    denied (after_column 0 n c.args.written.now) to ∷
    only_rows (bounds 0 (types_of frame)) ∷
    only_rows (bounds n (types_at frame c.args.written.now)) ∷
    []) in
    let d0 : Draft = c.new-draft.result in
    let d1 : Draft = c.add_pred.new.draft in
    let d2 : Draft = c.add_copies.new.draft in
    let d3 : Draft = c.add_pred-2.new.draft in
    let d4 : Draft = c.add_frame_bounds.new.draft in
    let d5 : Draft = c.add_written_bounds.new.draft in
    let a1 : Adds (said (λ c. c) from) d0 d1 = subst (λ (p : PlainSystem). Adds p d0 d1) first c.in_ok-add_pred.ensures.adds in
    let a3 : Adds (denied after to) d2 d3 = subst (λ (p : PlainSystem). Adds p d2 d3) last c.in_ok-add_pred-2.ensures.adds in
    draft_is (all_systems parts) d0 d5 c.finish.result c.new-draft.ensures.rows c.new-draft.ensures.groups
    (adds_all parts d0 d5 (d1, a1, (d2, c.in_ok-add_copies.ensures.adds, (d3, a3, (d4, c.in_ok-add_frame_bounds.ensures.adds, (d5, c.in_ok-add_written_bounds.ensures.adds, refl))))))
    c.finish.ensures.rows c.finish.ensures.groups

pub returns-clause-fits : goal.returns-clause-fits
returns-clause-fits c =
    let frame = c.args.frame.now in
    let n = length frame in
    let from = formula_of c.args.from.now in
    let to = formula_of c.args.to.now in
    let after = after_column 0 n c.args.written.now in
    let first : stated false (slice_index c.deref.result.now) from ≡ said (λ c. c) from =
    stated_by_table false n (λ c. c) c.deref.result.now from c.requires.from_over
    (from_first n c.deref.result.now (sliced n (λ c. 0 + c) c.deref.result.now c.in_ok-before.before.items c.deref.ensures.value c.in_ok-before.ensures.table)) in
    let last : stated true (slice_index c.deref-2.result.now) to ≡ denied after to =
    stated_by_table true n after c.deref-2.result.now to c.requires.to_over
    (sliced n after c.deref-2.result.now c.in_ok-after.after.items c.deref-2.ensures.value c.in_ok-after.ensures) in
    (all_fit (
    said (λ c. c) from ∷
    only_rows c.args.rows.now ∷
    denied (after_column 0 n c.args.written.now) to ∷
    only_rows (bounds 0 (types_of frame)) ∷
    only_rows (bounds n (types_at frame c.args.written.now)) ∷
    [])).1 (
      subst PlainFits first c.in_ok-add_pred.ensures.fits,
      (
        c.in_ok-add_copies.ensures.fits,
        (
          subst PlainFits last c.in_ok-add_pred-2.ensures.fits,
          (c.in_ok-add_frame_bounds.ensures.fits, (c.in_ok-add_written_bounds.ensures.fits, tt)),
        ),
      ),
    )
