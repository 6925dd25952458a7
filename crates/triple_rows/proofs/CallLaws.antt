-- The system of a call triple: no point meets it exactly where the triple is valid.
use Rattle.std.proofs.Common.{◌≡◌, ◌↔◌, ◌∙◌, ℕ, ◌+◌, ◌<◌, ℤ, List, [], ◌∷◌, ◌++◌, length, length-append, ap, subst, arith}
use Rattle.std.specs.Prelude.{map}
use Rattle.std.specs.List.{AllByRecursion}
use Rattle.math_facts.specs.Terms.{IsBelow}
use Rattle.lin_rows.specs.Rows.{LinearRow, Holds}
use Rattle.lin_rows.specs.Points.{point_of}
use Rattle.letter_acts.specs.Frames.{Columns, globals_of, olds_of}
use Rattle.letter_acts.specs.Values.{RowsHold, HoldBeyond}
use Rattle.letter_acts.specs.Reading.{CallReads}
use Rattle.letter_acts.specs.Invariant.{call_width}
use Rattle.letter_acts.proofs.PointLemmas.{point_of-left, point_of-right, state_length, length-values_from, helpers_as_point}
use Rattle.triple_rows.specs.Predicates.{Formula, FormulaHolds}
use Rattle.triple_rows.specs.Ties.Known.{CallIsRead}
use Rattle.triple_rows.specs.Systems.{PlainMeets, call_system, said, denied, only_rows}
use Rattle.letter_acts.specs.FrameRows.Rows.{bounds, types_of, equal_row}
use Rattle.triple_rows.proofs.SaidLaws.{HasValues, all_met, state_said, state_heard, state_shown, state_denied}
use Rattle.triple_rows.proofs.RowLaws.{equal_rows, frame_heard, frame_said}
use Rattle.triple_rows.proofs.StateLaws.{read_state, read_has_values, read_is_state, state_is_typed, joined_agrees, tied, from_zero}

rows_below : (caller callee : Columns) (helpers : ℕ) (rows : List LinearRow) (s t : List ℤ) → length s ≡ length caller → length t ≡ length callee →
    AllByRecursion (λ r. IsBelow (call_width caller callee helpers) r.terms) rows → AllByRecursion (λ r. IsBelow (length (s ++ t) + helpers) r.terms) rows
rows_below caller callee helpers rows s t l k h =
    let a = length-append s t in
    let e : length caller + length callee + helpers ≡ length (s ++ t) + helpers = omega (arith, l, k, a) in
    subst (λ (n : ℕ). AllByRecursion (λ r. IsBelow n r.terms) rows) e h

-- the point has the caller's state, and the callee's behind it
record CallPoint (point : ℕ → ℤ) (caller callee : Columns) (s t : List ℤ) : Type 0 where
  first : HasValues point (λ c. 0 + c) (length caller) s
  second : HasValues point (λ c. length caller + c) (length callee) t

globals_tied : (point : ℕ → ℤ) (caller callee : Columns) (s t : List ℤ) → CallPoint point caller callee s t →
    AllByRecursion (λ c. (c < length callee) × (c < length caller)) (globals_of callee) →
    AllByRecursion (Holds point) (map (λ c. equal_row (length caller + c) c) (globals_of callee)) ↔ AllByRecursion (λ c. point_of t c ≡ point_of s c) (globals_of callee)
globals_tied point caller callee s t p w =
    let e = equal_rows point (λ c. length caller + c) (λ c. c) (globals_of callee) in
    let k = tied point (λ c. length caller + c) (λ c. c) (length callee) (length caller) t s (λ (c : ℕ). c) (λ c. c) (globals_of callee) p.second
    (from_zero point (length caller) s p.first) w in
    (λ h. k.0 (e.0 h), λ h. e.1 (k.1 h))

olds_tied : (point : ℕ → ℤ) (caller callee : Columns) (s t : List ℤ) → CallPoint point caller callee s t →
    AllByRecursion (λ o. (o.0 < length callee) × (o.1 < length caller)) (olds_of callee) →
    AllByRecursion (Holds point) (map (λ o. equal_row (length caller + o.0) o.1) (olds_of callee)) ↔ AllByRecursion (λ o. point_of t o.0 ≡ point_of s o.1) (olds_of callee)
olds_tied point caller callee s t p w =
    let e = equal_rows point (λ (o : ℕ × ℕ). length caller + o.0) (λ o. o.1) (olds_of callee) in
    let k = tied point (λ c. length caller + c) (λ c. c) (length callee) (length caller) t s (λ (o : ℕ × ℕ). o.0) (λ o. o.1) (olds_of callee) p.second
    (from_zero point (length caller) s p.first) w in
    (λ h. k.0 (e.0 h), λ h. e.1 (k.1 h))

call_met : (caller callee : Columns) (helpers : ℕ) (rows : List LinearRow) (from to : Formula) → CallIsRead caller callee helpers rows from to →
    ((point : ℕ → ℤ) → PlainMeets point (call_system caller callee rows from to) → ⊥) →
    (s t : List ℤ) → CallReads caller callee helpers rows s t → FormulaHolds (point_of s) from → FormulaHolds (point_of t) to
call_met caller callee helpers rows from to k none s t r h =
    at ((helpers_as_point (s ++ t) helpers rows (rows_below caller callee helpers rows s t (state_length caller s r.before) (state_length callee t r.after) k.rows_within)).0 r.rows_hold)
  where
    at : HoldBeyond (s ++ t) rows → FormulaHolds (point_of t) to
    at b =
        let a = length-append s t in
        let ls = state_length caller s r.before in
        let lt = state_length callee t r.after in
        let p : CallPoint b.point caller callee s t = record {
          first = record {
            same = λ c l.
                ap b.point (let e : 0 + c ≡ c = omega arith in e) ∙ b.agrees c (omega (arith, a, ls, l)) ∙ point_of-left s t c (omega (arith, ls, l));
          };
          second = record {
            same = λ c l.
                b.agrees (length caller + c) (omega (arith, a, ls, lt, l)) ∙ point_of-right s t (length caller + c) c (omega (arith, ls));
          };
        } in
        state_shown b.point (λ c. length caller + c) (length callee) t to p.second k.to_over k.inequalities
        (λ d. none b.point ((all_met b.point (
        said (λ c. c) from ∷
        only_rows (map (λ c. equal_row (length caller + c) c) (globals_of callee)) ∷
        only_rows (map (λ o. equal_row (length caller + o.0) o.1) (olds_of callee)) ∷
        only_rows rows ∷
        denied (λ c. length caller + c) to ∷
        only_rows (bounds 0 (types_of caller)) ∷
        only_rows (bounds (length caller) (types_of callee)) ∷
        [])).1 (
          state_said b.point (λ c. c) (length caller) s from (from_zero b.point (length caller) s p.first) k.from_over h,
          (
            ((globals_tied b.point caller callee s t p k.globals_within).1 r.globals, tt),
            (
              ((olds_tied b.point caller callee s t p k.olds_within).1 r.olds, tt),
              (
                (b.hold, tt),
                (
                  d,
                  (
                    (frame_said b.point 0 caller (state_is_typed b.point (λ c. 0 + c) caller s p.first r.before), tt),
                    (
                      (frame_said b.point (length caller) callee (state_is_typed b.point (λ c. length caller + c) callee t p.second r.after), tt),
                      tt,
                    ),
                  ),
                ),
              ),
            ),
          ),
        )))

call_found : (caller callee : Columns) (helpers : ℕ) (rows : List LinearRow) (from to : Formula) → CallIsRead caller callee helpers rows from to →
    ((s t : List ℤ) → CallReads caller callee helpers rows s t → FormulaHolds (point_of s) from → FormulaHolds (point_of t) to) →
    (point : ℕ → ℤ) → PlainMeets point (call_system caller callee rows from to) → ⊥
call_found caller callee helpers rows from to k valid point m =
    let parts = (all_met point (
    said (λ c. c) from ∷
    only_rows (map (λ c. equal_row (length caller + c) c) (globals_of callee)) ∷
    only_rows (map (λ o. equal_row (length caller + o.0) o.1) (olds_of callee)) ∷
    only_rows rows ∷
    denied (λ c. length caller + c) to ∷
    only_rows (bounds 0 (types_of caller)) ∷
    only_rows (bounds (length caller) (types_of callee)) ∷
    [])).0 m in
    let s : List ℤ = read_state point (λ c. 0 + c) (length caller) in
    let t : List ℤ = read_state point (λ c. length caller + c) (length callee) in
    let ls : length s ≡ length caller = length-values_from (λ c. point (0 + c)) 0 (length caller) in
    let lt : length t ≡ length callee = length-values_from (λ c. point (length caller + c)) 0 (length callee) in
    let p : CallPoint point caller callee s t = record {
      first = read_has_values point (λ c. 0 + c) (length caller);
      second = read_has_values point (λ c. length caller + c) (length callee);
    } in
    let v : HasValues point (λ c. c) (length caller) s = from_zero point (length caller) s p.first in
    let r : RowsHold (s ++ t) helpers rows =
    (helpers_as_point (s ++ t) helpers rows (rows_below caller callee helpers rows s t ls lt k.rows_within)).1 (record {
      point = point;
      agrees = joined_agrees point s t
          (λ c l. v.same c (omega (arith, ls, l)))
          (λ i c e l. ap point (let q : c ≡ length caller + i = omega (arith, ls, e) in q) ∙ p.second.same i (omega (arith, lt, l)));
      hold = parts.1.1.1.0.0;
    }) in
    let reads : CallReads caller callee helpers rows s t = record {
      before = read_is_state point (λ c. 0 + c) caller (frame_heard point 0 caller parts.1.1.1.1.1.0.0);
      after = read_is_state point (λ c. length caller + c) callee (frame_heard point (length caller) callee parts.1.1.1.1.1.1.0.0);
      globals = (globals_tied point caller callee s t p k.globals_within).0 parts.1.0.0;
      olds = (olds_tied point caller callee s t p k.olds_within).0 parts.1.1.0.0;
      rows_hold = r;
    } in
    state_denied point (λ c. length caller + c) (length callee) t to p.second k.to_over k.inequalities parts.1.1.1.1.0
    (valid s t reads (state_heard point (λ c. c) (length caller) s from v k.from_over parts.0))

pub call_exact : (caller callee : Columns) (helpers : ℕ) (rows : List LinearRow) (from to : Formula) → CallIsRead caller callee helpers rows from to →
    ((point : ℕ → ℤ) → PlainMeets point (call_system caller callee rows from to) → ⊥) ↔
    ((s t : List ℤ) → CallReads caller callee helpers rows s t → FormulaHolds (point_of s) from → FormulaHolds (point_of t) to)
call_exact caller callee helpers rows from to k = (call_met caller callee helpers rows from to k, call_found caller callee helpers rows from to k)
