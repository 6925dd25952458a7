-- The system of an inside triple: no point meets it exactly where the triple is valid.
use Rattle.std.proofs.Common.{◌≡◌, ◌↔◌, ◌∙◌, ℕ, ◌+◌, ◌<◌, ℤ, List, [], ◌∷◌, ◌++◌, length, length-append, Some, sym, ap, subst, inl, inr, arith}
use Rattle.std.specs.Prelude.{slice_get}
use Rattle.std.specs.List.{AllByRecursion}
use Rattle.math_facts.specs.Terms.{IsBelow}
use Rattle.lin_rows.specs.Rows.{LinearRow}
use Rattle.lin_rows.specs.Points.{point_of}
use Rattle.nwa_base.specs.Members.{Member}
use Rattle.letter_acts.specs.Frames.{Columns}
use Rattle.letter_acts.specs.Values.{picked, RowsHold, HoldBeyond}
use Rattle.letter_acts.specs.Reading.{InsideReads}
use Rattle.letter_acts.specs.Invariant.{inside_width}
use Rattle.letter_acts.proofs.ListLemmas.{below_or_from}
use Rattle.letter_acts.proofs.PointLemmas.{point_of-left, point_of-right, state_length, length-values_from, helpers_as_point}
use Rattle.triple_rows.specs.Predicates.{Formula, FormulaHolds}
use Rattle.triple_rows.specs.Ties.Known.{InsideIsRead}
use Rattle.triple_rows.specs.Systems.{PlainMeets, after_column, inside_system, said, denied, only_rows}
use Rattle.letter_acts.specs.FrameRows.Rows.{bounds, types_of, types_at}
use Rattle.triple_rows.proofs.ListLaws.{within, something_at, all_at}
use Rattle.triple_rows.proofs.SaidLaws.{HasValues, all_met, state_said, state_heard, state_shown, state_denied}
use Rattle.triple_rows.proofs.RowLaws.{IsTyped, frame_heard, frame_said, written_heard, written_said}
use Rattle.triple_rows.proofs.StateLaws.{point_of-past, picked_at, length-picked, read_state, read_has_values, read_is_state, state_is_typed, after_written, after_other, after_has_values, after_is_typed, written_are_typed, joined_agrees, from_zero}

rows_below : (frame : Columns) (written : List ℕ) (helpers : ℕ) (rows : List LinearRow) (s t : List ℤ) → length s ≡ length frame →
    AllByRecursion (λ r. IsBelow (inside_width frame written helpers) r.terms) rows → AllByRecursion (λ r. IsBelow (length (s ++ picked t written) + helpers) r.terms) rows
rows_below frame written helpers rows s t l h =
    let p = length-picked t written in
    let a = length-append s (picked t written) in
    let e : length frame + length written + helpers ≡ length (s ++ picked t written) + helpers = omega (arith, l, p, a) in
    subst (λ (k : ℕ). AllByRecursion (λ r. IsBelow k r.terms) rows) e h

-- ---- from states to a point

inside_met : (frame : Columns) (written : List ℕ) (helpers : ℕ) (rows : List LinearRow) (from to : Formula) → InsideIsRead frame written helpers rows from to →
    ((point : ℕ → ℤ) → PlainMeets point (inside_system frame written rows from to) → ⊥) →
    (s t : List ℤ) → InsideReads frame written helpers rows s t → FormulaHolds (point_of s) from → FormulaHolds (point_of t) to
inside_met frame written helpers rows from to k none s t r h =
    at ((helpers_as_point (s ++ picked t written) helpers rows (rows_below frame written helpers rows s t (state_length frame s r.before) k.rows_within)).0 r.rows_hold)
  where
    at : HoldBeyond (s ++ picked t written) rows → FormulaHolds (point_of t) to
    at b =
        let l : length s ≡ length frame = state_length frame s r.before in
        let v : HasValues b.point (λ c. c) (length frame) s = record {
          same = λ c m. b.agrees c (let a = length-append s (picked t written) in omega (arith, a, l, m)) ∙ point_of-left s (picked t written) c (omega (arith, l, m));
        } in
        let z : HasValues b.point (λ c. 0 + c) (length frame) s = record { same = λ c m. ap b.point (let e : 0 + c ≡ c = omega arith in e) ∙ v.same c m } in
        let w : (i j c : ℕ) → j ≡ length frame + i → slice_get written i ≡ Some c → b.point j ≡ point_of t c = λ i j c e g.
        b.agrees j (let a = length-append s (picked t written) in let p = length-picked t written in let q = within written i c g in omega (arith, a, p, q, l, e)) ∙
        point_of-right s (picked t written) j i (omega (arith, l, e)) ∙ picked_at t written i c g in
        let a : HasValues b.point (after_column 0 (length frame) written) (length frame) t =
        after_has_values b.point 0 (length frame) (length frame) written s t k.distinct z w r.others in
        state_shown b.point (after_column 0 (length frame) written) (length frame) t to a k.to_over k.inequalities
        (λ d. none b.point ((all_met b.point (
        said (λ c. c) from ∷
        only_rows rows ∷
        denied (after_column 0 (length frame) written) to ∷
        only_rows (bounds 0 (types_of frame)) ∷
        only_rows (bounds (length frame) (types_at frame written)) ∷
        [])).1 (
          state_said b.point (λ c. c) (length frame) s from v k.from_over h,
          (
            (b.hold, tt),
            (
              d,
              (
                (frame_said b.point 0 frame (state_is_typed b.point (λ c. 0 + c) frame s z r.before), tt),
                (
                  (written_said b.point (length frame) frame written (written_are_typed b.point (length frame) frame written t r.after w), tt),
                  tt,
                ),
              ),
            ),
          ),
        )))

-- ---- from a point to states

inside_found : (frame : Columns) (written : List ℕ) (helpers : ℕ) (rows : List LinearRow) (from to : Formula) → InsideIsRead frame written helpers rows from to →
    ((s t : List ℤ) → InsideReads frame written helpers rows s t → FormulaHolds (point_of s) from → FormulaHolds (point_of t) to) →
    (point : ℕ → ℤ) → PlainMeets point (inside_system frame written rows from to) → ⊥
inside_found frame written helpers rows from to k valid point m =
    let parts = (all_met point (
    said (λ c. c) from ∷
    only_rows rows ∷
    denied (after_column 0 (length frame) written) to ∷
    only_rows (bounds 0 (types_of frame)) ∷
    only_rows (bounds (length frame) (types_at frame written)) ∷
    [])).0 m in
    let n = length frame in
    let after : ℕ → ℕ = after_column 0 n written in
    let s : List ℤ = read_state point (λ c. 0 + c) n in
    let t : List ℤ = read_state point after n in
    let z : HasValues point (λ c. 0 + c) n s = read_has_values point (λ c. 0 + c) n in
    let v : HasValues point (λ c. c) n s = from_zero point n s z in
    let a : HasValues point after n t = read_has_values point after n in
    let b : IsTyped point (λ c. 0 + c) frame = frame_heard point 0 frame parts.1.1.1.0.0 in
    let ls : length s ≡ n = length-values_from (λ c. point (0 + c)) 0 n in
    let lt : length t ≡ n = length-values_from (λ c. point (after c)) 0 n in
    let w : (i j c : ℕ) → j ≡ n + i → slice_get written i ≡ Some c → point j ≡ point_of t c = λ i j c e g.
    ap point (sym (after_written 0 n written i j c k.distinct g e)) ∙ a.same c (all_at (λ d. d < n) written i c g k.exist) in
    let o : (c : ℕ) → (Member written c → ⊥) → point_of t c ≡ point_of s c = λ c f. elim (below_or_from c n) [
      | inl l ↦ sym (a.same c l) ∙ ap point (after_other 0 n written c f) ∙ z.same c l
      | inr g ↦ (let e = g.1 in point_of-past t c (omega (arith, lt, e)) ∙ sym (point_of-past s c (omega (arith, ls, e))))
    ] in
    let r : RowsHold (s ++ picked t written) helpers rows =
    (helpers_as_point (s ++ picked t written) helpers rows (rows_below frame written helpers rows s t ls k.rows_within)).1 (record {
      point = point;
      agrees = joined_agrees point s (picked t written)
          (λ c l. v.same c (omega (arith, ls, l)))
          (λ i c e l. (let q = something_at written i (let p = length-picked t written in omega (arith, p, l)) in
          w i c q.0 (omega (arith, ls, e)) q.1 ∙ sym (picked_at t written i q.0 q.1)));
      hold = parts.1.0.0;
    }) in
    let reads : InsideReads frame written helpers rows s t = record {
      before = read_is_state point (λ c. 0 + c) frame b;
      after = read_is_state point after frame (after_is_typed point 0 n frame written k.distinct b (written_heard point n frame written parts.1.1.1.1.0.0));
      others = o;
      rows_hold = r;
    } in
    state_denied point after n t to a k.to_over k.inequalities parts.1.1.0 (valid s t reads (state_heard point (λ c. c) n s from v k.from_over parts.0))

pub inside_exact : (frame : Columns) (written : List ℕ) (helpers : ℕ) (rows : List LinearRow) (from to : Formula) → InsideIsRead frame written helpers rows from to →
    ((point : ℕ → ℤ) → PlainMeets point (inside_system frame written rows from to) → ⊥) ↔
    ((s t : List ℤ) → InsideReads frame written helpers rows s t → FormulaHolds (point_of s) from → FormulaHolds (point_of t) to)
inside_exact frame written helpers rows from to k = (inside_met frame written helpers rows from to k, inside_found frame written helpers rows from to k)
