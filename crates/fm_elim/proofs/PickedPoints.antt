-- The elimination finds the picked point of the tightened rows, and there is one such point.
use Rattle.std.proofs.Common.{◌≡◌, ℕ, zero, suc, ℤ, pos, ◌<ℤ◌, List, [], ◌∷◌, ◌++◌, length, map, append_assoc, refl, sym, ap, ◌∙◌, arith}
use Rattle.std.specs.List.{AllByRecursion}
use Rattle.std.proofs.lemmas.Int.{ints}
use Rattle.frac.specs.Fractions.{Fraction, IsLowest}
use Rattle.lin_rows.specs.Rows.{LinearRow, IsRow, RowsBelow}
use Rattle.lin_rows.specs.Tightening.{tightened}
use Rattle.lin_rows.proofs.TighteningLaw.{tightened_is_row}
use Rattle.fm_elim.specs.Derivations.{inputs}
use Rattle.fm_elim.specs.Values.{value_at}
use Rattle.fm_elim.specs.Elimination.{EliminationOutcome, refuted, point, elimination}
use Rattle.fm_elim.specs.Worth.{HoldsAt, IsWorth}
use Rattle.fm_elim.specs.Slices.{InSlice, IsPicked, IsPoint, IsPickedOutcome}
use Rattle.fm_elim.proofs.Lists.{all_weaker, all_parts}
use Rattle.fm_elim.proofs.Inputs.{inputs_are_clear, inputs_are_ordered}
use Rattle.fm_elim.proofs.Points.{RowHolds, IfPoint}
use Rattle.fm_elim.proofs.Refuting.{no_point}
use Rattle.fm_elim.proofs.Soundness.{inputs_hold, rows_are_worth}
use Rattle.fm_elim.proofs.Picks.{pick_of_same, pick_is_one}
use Rattle.fm_elim.proofs.Slicing.{IsOne, solve_picked}

-- the same points have the same picked point
pub picked_of_same : (P Q : List Fraction → Type 0) (values : List Fraction) → ((xs : List Fraction) → P xs → Q xs) → ((xs : List Fraction) → Q xs → P xs) →
    IsPicked P values → IsPicked Q values
picked_of_same P Q values f g h = record {
  one = f values h.one;
  picks = λ before v rest e.
      pick_of_same (InSlice P before) (InSlice Q before) v (λ w s. (s.0, f (before ++ w ∷ s.0) s.1)) (λ w s. (s.0, g (before ++ w ∷ s.0) s.1))
      (h.picks before v rest e);
}

-- ---- the rows and their inputs

inputs_held : (d : ℤ) (p : ℕ → ℤ) (n : ℕ) (rows : List LinearRow) → AllByRecursion (HoldsAt d p) (map tightened rows) → AllByRecursion (RowHolds d p) (inputs n rows)
inputs_held d p n [] h = tt
inputs_held d p n (r ∷ rs) h = (h.0, inputs_held d p (suc n) rs h.1)

value_positive : (values : List Fraction) (c : ℕ) → AllByRecursion IsLowest values → pos 0 <ℤ (value_at values c).den
value_positive [] c h = omega (arith, ints)
value_positive (x ∷ values) zero h = h.0.positive
value_positive (x ∷ values) (suc c) h = value_positive values c h.1

to_point : (n : ℕ) (rows : List LinearRow) (values : List Fraction) → IsOne n (inputs 0 rows) values → IsPoint n (map tightened rows) values
to_point n rows values h = record {
  lowest = h.lowest;
  meets = record {
    columns = h.meets.columns;
    d = h.meets.d;
    p = h.meets.p;
    positive = h.meets.are_values.positive;
    values_are = λ c. (h.meets.are_values.each c).ratio;
    holds = inputs_hold h.meets.d h.meets.p 0 rows h.meets.holds;
  };
}

from_point : (n : ℕ) (rows : List LinearRow) (values : List Fraction) → IsPoint n (map tightened rows) values → IsOne n (inputs 0 rows) values
from_point n rows values h = record {
  lowest = h.lowest;
  meets = record {
    columns = h.meets.columns;
    d = h.meets.d;
    p = h.meets.p;
    are_values = record { positive = h.meets.positive; each = λ c. record { positive = value_positive values c h.lowest; ratio = h.meets.values_are c } };
    holds = inputs_held h.meets.d h.meets.p 0 rows h.meets.holds;
  };
}

outcome_picked : (n : ℕ) (rows : List LinearRow) (o : EliminationOutcome) → IsWorth n (map tightened rows) o → IfPoint o (IsPicked (IsOne n (inputs 0 rows))) →
    IsPickedOutcome n (map tightened rows) o
outcome_picked n rows (refuted parts) w h = no_point (map tightened rows) parts w
outcome_picked n rows (point values) w h =
    picked_of_same (IsOne n (inputs 0 rows)) (IsPoint n (map tightened rows)) values (to_point n rows) (from_point n rows) h

pub point_is_picked : (n : ℕ) (rows : List LinearRow) → AllByRecursion IsRow rows → RowsBelow n rows → IsPickedOutcome n (map tightened rows) (elimination n rows)
point_is_picked n rows v b =
    outcome_picked n rows (elimination n rows) (rows_are_worth n rows v b)
    (solve_picked n (inputs 0 rows) (inputs_are_clear n 0 rows b)
    (inputs_are_ordered 0 rows (all_weaker IsRow (λ r. IsRow (tightened r)) rows (λ r i. tightened_is_row r i) v)))

-- ---- there is one

member_lowest : (P : List Fraction → Type 0) (before : List Fraction) (w : Fraction) → ((xs : List Fraction) → P xs → AllByRecursion IsLowest xs) → InSlice P before w → IsLowest w
member_lowest P before w low s = (all_parts IsLowest before (w ∷ s.0) (low (before ++ w ∷ s.0) s.1)).1.0

same_from : (P : List Fraction → Type 0) (a b before xs ys : List Fraction) → ((zs : List Fraction) → P zs → AllByRecursion IsLowest zs) → IsPicked P a → IsPicked P b →
    length xs ≡ length ys → a ≡ before ++ xs → b ≡ before ++ ys → xs ≡ ys
same_from P a b before [] [] low h i l e f = refl
same_from P a b before [] (y ∷ ys) low h i l e f = absurd (let c : ⊥ = omega arith in c)
same_from P a b before (x ∷ xs) [] low h i l e f = absurd (let c : ⊥ = omega arith in c)
same_from P a b before (x ∷ xs) (y ∷ ys) low h i l e f =
    let s : x ≡ y = pick_is_one (InSlice P before) x y (λ w m. member_lowest P before w low m) (h.picks before x xs e) (i.picks before y ys f) in
    let g : b ≡ before ++ x ∷ ys = f ∙ ap (λ (z : Fraction). before ++ z ∷ ys) (sym s) in
    ap (λ (zs : List Fraction). x ∷ zs)
    (same_from P a b (before ++ x ∷ []) xs ys low h i (omega arith) (e ∙ sym (append_assoc before (x ∷ []) xs)) (g ∙ sym (append_assoc before (x ∷ []) ys))) ∙
    ap (λ (z : Fraction). z ∷ ys) s

pub picked_is_one : (n : ℕ) (rows : List LinearRow) (xs ys : List Fraction) → IsPicked (IsPoint n rows) xs → IsPicked (IsPoint n rows) ys → xs ≡ ys
picked_is_one n rows xs ys h i =
    same_from (IsPoint n rows) xs ys [] xs ys (λ zs p. p.lowest) h i (h.one.meets.columns ∙ sym i.one.meets.columns) refl refl
