-- An eliminated column stands in no row that is left.
use Rattle.std.proofs.Common.{◌≡◌, ℕ, suc, ◌*◌, ◌/◌, ◌≤◌, ℤ, pos, negsuc, neg_ℤ, ◌+ℤ◌, ◌*ℤ◌, ◌<ℤ◌, Bool, true, false, not, List, ◌++◌, Option, None, Some, map, nat_eq, refl, sym, ap, ◌∙◌, subst, inl, inr, ◌⊎◌, arith, if◌then◌else◌}
use Rattle.std.specs.Prelude.{MatchOption, unsigned_abs}
use Rattle.std.specs.Int.{IsGcd}
use Rattle.std.specs.List.{AllByRecursion, filter, flat_map}
use Rattle.std.proofs.Math.Nat.{mul-div_cancel'}
use Rattle.std.proofs.lemmas.Bool.{and_parts, eqb-true, cases_eq}
use Rattle.std.proofs.lemmas.Int.{ints}
use Rattle.math_facts.proofs.Whole.{product_zero_right, product_one_right, product_neg_right}
use Rattle.lin_rows.specs.Sums.{CanScale, is_zero}
use Rattle.lin_rows.proofs.SummedLaws.{coefficient-scaled_sum, AscendsFrom-summed, HasNoZero-summed}
use Rattle.math_facts.specs.Terms.{scaled}
use Rattle.fm_elim.specs.Quotients.{common}
use Rattle.fm_elim.specs.Folds.{first, others}
use Rattle.fm_elim.specs.Derivations.{DerivedRow, nothing_derived, plus_times, at, has, is_upper, is_lower, is_equality}
use Rattle.fm_elim.specs.Columns.{is_pivot, clearing, cleared, halves, share, other_share, pair, pairs, elimination_step_by, elimination_step}
use Rattle.fm_elim.proofs.Lists.{all_append, all_weaker, all_both, all_always, all_map, all_flat_map, all_filter, all_first}
use Rattle.fm_elim.proofs.Steps.{step_keeps}
use Rattle.fm_elim.proofs.Multipliers.{less_is, zero_is}
use Rattle.fm_elim.proofs.Inputs.{IsClear, IsOrdered}
use Rattle.fm_elim.proofs.FractionLaws.{common_is}

-- the column does not stand in the row
abbrev pub Lacks : ℕ → DerivedRow → Type 0
Lacks k r = at k r ≡ pos 0

-- the coefficients of a sum
pub at_sum : (c : ℕ) (a : DerivedRow) (m : ℤ) (b : DerivedRow) → at c (plus_times a m b) ≡ at c a +ℤ (m *ℤ at c b)
at_sum c a m b = coefficient-scaled_sum c a.row.terms m b.row.terms

pub lacks_from_test : (k : ℕ) (r : DerivedRow) → has k r ≡ false → Lacks k r
lacks_from_test k r e = by_test (is_zero (at k r)) refl e
  where
    by_test : (b : Bool) → is_zero (at k r) ≡ b → not b ≡ false → Lacks k r
    by_test true d f = zero_is (at k r) d
    by_test false d f = absurd (cc)

pub lacks_from_not : (k : ℕ) (r : DerivedRow) → not (has k r) ≡ true → Lacks k r
lacks_from_not k r e = by_test (has k r) refl e
  where
    by_test : (b : Bool) → has k r ≡ b → not b ≡ true → Lacks k r
    by_test true d f = absurd (cc)
    by_test false d f = lacks_from_test k r d

-- ---- by an equality

unit_cases : (e : ℤ) → unsigned_abs e ≡ 1 → (e ≡ pos 1) ⊎ (e ≡ negsuc 0)
unit_cases (pos n) h = inl (ap pos h)
unit_cases (negsuc n) h = inr (ap negsuc (let k : n ≡ 0 = omega arith in k))

cancels : (r e : ℤ) → unsigned_abs e ≡ 1 → r +ℤ (neg_ℤ (r *ℤ e) *ℤ e) ≡ pos 0
cancels r e h = by_cases (unit_cases e h)
  where
    by_cases : ((e ≡ pos 1) ⊎ (e ≡ negsuc 0)) → r +ℤ (neg_ℤ (r *ℤ e) *ℤ e) ≡ pos 0
    by_cases (inl d) =
        subst (λ (u : ℤ). r +ℤ (neg_ℤ (r *ℤ u) *ℤ u) ≡ pos 0) (sym d)
        (let a : r *ℤ pos 1 ≡ r = product_one_right r in
        let b : neg_ℤ (r *ℤ pos 1) *ℤ pos 1 ≡ neg_ℤ (r *ℤ pos 1) = product_one_right (neg_ℤ (r *ℤ pos 1)) in
        omega (arith, ints))
    by_cases (inr d) =
        subst (λ (u : ℤ). r +ℤ (neg_ℤ (r *ℤ u) *ℤ u) ≡ pos 0) (sym d)
        (let a : r *ℤ negsuc 0 ≡ neg_ℤ (r *ℤ pos 1) = product_neg_right r (pos 1) in
        let a2 : r *ℤ pos 1 ≡ r = product_one_right r in
        let b : neg_ℤ (r *ℤ negsuc 0) *ℤ negsuc 0 ≡ neg_ℤ (neg_ℤ (r *ℤ negsuc 0) *ℤ pos 1) = product_neg_right (neg_ℤ (r *ℤ negsuc 0)) (pos 1) in
        let b2 : neg_ℤ (r *ℤ negsuc 0) *ℤ pos 1 ≡ neg_ℤ (r *ℤ negsuc 0) = product_one_right (neg_ℤ (r *ℤ negsuc 0)) in
        omega (arith, ints))

pub pivot_is_unit : (k : ℕ) (e : DerivedRow) → is_pivot k e ≡ true → unsigned_abs (at k e) ≡ 1
pivot_is_unit k e h = eqb-true (unsigned_abs (at k e)) 1 (and_parts (is_equality e.row.kind) (nat_eq (unsigned_abs (at k e)) 1) h).1

pub cleared_lacks : (k : ℕ) (e r : DerivedRow) → is_pivot k e ≡ true → Lacks k (cleared k e r)
cleared_lacks k e r h = by_test (has k r) refl
  where
    by_test : (b : Bool) → has k r ≡ b → Lacks k (if b then plus_times r (clearing k e r) e else r)
    by_test true d = at_sum k r (clearing k e r) e ∙ cancels (at k r) (at k e) (pivot_is_unit k e h)
    by_test false d = lacks_from_test k r d

-- ---- by pairs

nat_cancels : (a b g : ℕ) → g * (a / g) ≡ a → g * (b / g) ≡ b → (b / g) * a ≡ (a / g) * b
nat_cancels a b g e f =
    ap (λ (n : ℕ). (b / g) * n) (sym e) ∙ (let k : (b / g) * (g * (a / g)) ≡ (a / g) * (g * (b / g)) = omega arith in k) ∙ ap (λ (n : ℕ). (a / g) * n) f

pair_cancels : (u l : ℤ) → pos 0 <ℤ u → l <ℤ pos 0 →
    ((pos 0 +ℤ (pos (unsigned_abs l / common (unsigned_abs u) (unsigned_abs l)) *ℤ u)) +ℤ (pos (unsigned_abs u / common (unsigned_abs u) (unsigned_abs l)) *ℤ l)) ≡ pos 0
pair_cancels (pos a) (pos b) p q = absurd (omega (arith, ints))
pair_cancels (negsuc a) l p q = absurd (omega (arith, ints))
pair_cancels (pos a) (negsuc b) p q =
    let g : ℕ = common a (suc b) in
    let h : IsGcd a (suc b) g = common_is a (suc b) in
    let e : (suc b / g) * a ≡ (a / g) * suc b = nat_cancels a (suc b) g (mul-div_cancel' g h.0) (mul-div_cancel' g h.1) in
    let f : pos (suc b / g) *ℤ pos a ≡ pos ((suc b / g) * a) = refl in
    let k : pos (a / g) *ℤ negsuc b ≡ neg_ℤ (pos (a / g) *ℤ pos (suc b)) = product_neg_right (pos (a / g)) (pos (suc b)) in
    let m : pos (a / g) *ℤ pos (suc b) ≡ pos ((a / g) * suc b) = refl in
    let n : pos ((suc b / g) * a) ≡ pos ((a / g) * suc b) = ap pos e in
    omega (arith, ints)

pair_lacks : (k : ℕ) (u l : DerivedRow) → is_upper k u ≡ true → is_lower k l ≡ true → Lacks k (pair k u l)
pair_lacks k u l p q =
    at_sum k (plus_times nothing_derived (share k u l) u) (other_share k u l) l ∙
    ap (λ (z : ℤ). z +ℤ (other_share k u l *ℤ at k l)) (at_sum k nothing_derived (share k u l) u) ∙
    pair_cancels (at k u) (at k l) (less_is (pos 0) (at k u) p) (less_is (at k l) (pos 0) q)

-- ---- the step

abbrev Anything : DerivedRow → Type 0
Anything r = Unit {0}

step_by_lacks : (k : ℕ) (o : Option DerivedRow) (rows : List DerivedRow) → MatchOption o (Unit {0}) (λ e. Anything e × (is_pivot k e ≡ true)) →
    AllByRecursion (Lacks k) (elimination_step_by k o rows).rows
step_by_lacks k (Some e) rows f =
    all_map Anything (Lacks k) (cleared k e) (others (is_pivot k) rows) (λ r i. cleared_lacks k e r f.1) (all_always Anything (others (is_pivot k) rows) (λ r. tt))
step_by_lacks k None rows f =
    let all : List DerivedRow = flat_map (halves k) rows in
    let taken : (p : DerivedRow → Bool) → AllByRecursion (λ r. Anything r × (p r ≡ true)) (filter p all) =
    λ p. all_filter Anything p all (all_always Anything all (λ r. tt)) in
    all_append (Lacks k) (filter (λ r. not (has k r)) all) (pairs k (filter (is_upper k) all) (filter (is_lower k) all))
    (all_weaker (λ r. Anything r × (not (has k r) ≡ true)) (Lacks k) (filter (λ r. not (has k r)) all) (λ r i. lacks_from_not k r i.1) (taken (λ r. not (has k r))))
    (all_flat_map (λ u. Anything u × (is_upper k u ≡ true)) (Lacks k) (λ u. map (pair k u) (filter (is_lower k) all)) (filter (is_upper k) all)
    (λ u d. all_map (λ l. Anything l × (is_lower k l ≡ true)) (Lacks k) (pair k u) (filter (is_lower k) all) (λ l e. pair_lacks k u l d.1 e.1) (taken (is_lower k)))
    (taken (is_upper k)))

pub step_lacks : (k : ℕ) (rows : List DerivedRow) → AllByRecursion (Lacks k) (elimination_step k rows).rows
step_lacks k rows =
    step_by_lacks k (first (is_pivot k) rows) rows (all_first Anything (is_pivot k) rows (all_always Anything rows (λ r. tt)))

-- ---- the columns and the order of what is left

sum_is_clear : (n : ℕ) (a : DerivedRow) (m : ℤ) (b : DerivedRow) → CanScale m b.row.kind → IsClear n a → IsClear n b → IsClear n (plus_times a m b)
sum_is_clear n a m b p h i = λ c l.
    let e : at c (plus_times a m b) ≡ at c a +ℤ (m *ℤ at c b) = at_sum c a m b in
    let f : at c a ≡ pos 0 = h c l in
    let g : m *ℤ at c b ≡ m *ℤ pos 0 = ap (λ (z : ℤ). m *ℤ z) (i c l) in
    let z : m *ℤ pos 0 ≡ pos 0 = product_zero_right m in
    omega (arith, ints)

clear_lower : (k : ℕ) (r : DerivedRow) → IsClear (suc k) r → Lacks k r → IsClear k r
clear_lower k r h e = λ c l. at_column c l (cases_eq k c)
  where
    at_column : (c : ℕ) → k ≤ c → ((k ≡ c) ⊎ (k ≡ c → ⊥)) → at c r ≡ pos 0
    at_column c l (inl d) = subst (λ (n : ℕ). at n r ≡ pos 0) d e
    at_column c l (inr d) = h c (omega arith)

-- what is left after a column is eliminated has only columns before it
pub step_is_clear : (k : ℕ) (rows : List DerivedRow) → AllByRecursion (IsClear (suc k)) rows → AllByRecursion (IsClear k) (elimination_step k rows).rows
step_is_clear k rows h =
    all_weaker (λ r. IsClear (suc k) r × Lacks k r) (IsClear k) (elimination_step k rows).rows (λ r i. clear_lower k r i.0 i.1)
    (all_both (IsClear (suc k)) (Lacks k) (elimination_step k rows).rows (step_keeps (IsClear (suc k)) (λ c l. refl) (sum_is_clear (suc k)) k rows h) (step_lacks k rows))

pub sum_is_ordered : (a : DerivedRow) (m : ℤ) (b : DerivedRow) → CanScale m b.row.kind → IsOrdered a → IsOrdered b → IsOrdered (plus_times a m b)
sum_is_ordered a m b p h i = (AscendsFrom-summed (a.row.terms ++ scaled m b.row.terms), HasNoZero-summed (a.row.terms ++ scaled m b.row.terms))

pub step_is_ordered : (k : ℕ) (rows : List DerivedRow) → AllByRecursion IsOrdered rows → AllByRecursion IsOrdered (elimination_step k rows).rows
step_is_ordered k rows h = step_keeps IsOrdered (tt, tt) sum_is_ordered k rows h
