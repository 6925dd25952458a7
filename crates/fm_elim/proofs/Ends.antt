-- The end that a row sets to a column is the value that the row leaves for it, at the point of the columns before it.
use Rattle.std.proofs.Common.{◌≡◌, ◌≢◌, ℕ, ℤ, pos, ◌+ℤ◌, ◌-ℤ◌, ◌*ℤ◌, ◌<ℤ◌, Bool, true, false, List, [], ◌∷◌, nat_eq, refl, ap, ◌∙◌, subst, arith, if◌then◌else◌}
use Rattle.std.specs.List.{fold}
use Rattle.std.proofs.lemmas.Bool.{eqb-true}
use Rattle.std.proofs.lemmas.Int.{ints}
use Rattle.math_facts.specs.Terms.{dot}
use Rattle.math_facts.proofs.Whole.{product_zero_left, product_zero_right}
use Rattle.frac.specs.Fractions.{Fraction}
use Rattle.fm_elim.specs.Quotients.{whole, fraction_plus, fraction_minus}
use Rattle.fm_elim.specs.Derivations.{DerivedRow, at}
use Rattle.fm_elim.specs.Values.{value_at, term_value, with_term, sum_of, end_of}
use Rattle.fm_elim.proofs.FractionLaws.{Is, whole_is, plus_is, minus_is, times_is, over_is}

-- the values of the columns are p c / d
pub record AreValues (values : List Fraction) (d : ℤ) (p : ℕ → ℤ) : Type 0 where
  pub positive : pos 0 <ℤ d
  pub each : (c : ℕ) → Is (value_at values c) (p c) d

with_term_is : (k : ℕ) (values : List Fraction) (d : ℤ) (p : ℕ → ℤ) (sum : Fraction) (x : ℤ) (t : ℕ × ℤ) → AreValues values d p → p k ≡ pos 0 →
    Is sum x d → Is (with_term k values sum t) (x +ℤ (t.1 *ℤ p t.0)) d
with_term_is k values d p sum x t v z h = by_test (nat_eq t.0 k) refl
  where
    by_test : (b : Bool) → nat_eq t.0 k ≡ b → Is (if b then sum else fraction_plus sum (term_value values t)) (x +ℤ (t.1 *ℤ p t.0)) d
    by_test true e =
        let f : t.1 *ℤ p t.0 ≡ t.1 *ℤ pos 0 = ap (λ (y : ℤ). t.1 *ℤ y) (ap p (eqb-true t.0 k e) ∙ z) in
        let g : t.1 *ℤ pos 0 ≡ pos 0 = product_zero_right t.1 in
        let s : x ≡ x +ℤ (t.1 *ℤ p t.0) = omega (arith, ints) in
        subst (λ (y : ℤ). Is sum y d) s h
    by_test false e = plus_is sum (term_value values t) x (t.1 *ℤ p t.0) d h (times_is t.1 (value_at values t.0) (p t.0) d (v.each t.0))

sum_from_is : (k : ℕ) (values : List Fraction) (d : ℤ) (p : ℕ → ℤ) (sum : Fraction) (x : ℤ) (ts : List (ℕ × ℤ)) → AreValues values d p → p k ≡ pos 0 →
    Is sum x d → Is (fold (with_term k values) sum ts) (x +ℤ dot p ts) d
sum_from_is k values d p sum x [] v z h = let s : x ≡ x +ℤ pos 0 = omega (arith, ints) in subst (λ (y : ℤ). Is sum y d) s h
sum_from_is k values d p sum x (t ∷ ts) v z h =
    let s : (x +ℤ (t.1 *ℤ p t.0)) +ℤ dot p ts ≡ x +ℤ ((t.1 *ℤ p t.0) +ℤ dot p ts) = omega (arith, ints) in
    subst (λ (y : ℤ). Is (fold (with_term k values) (with_term k values sum t) ts) y d) s
    (sum_from_is k values d p (with_term k values sum t) (x +ℤ (t.1 *ℤ p t.0)) ts v z (with_term_is k values d p sum x t v z h))

pub sum_is : (k : ℕ) (values : List Fraction) (d : ℤ) (p : ℕ → ℤ) (ts : List (ℕ × ℤ)) → AreValues values d p → p k ≡ pos 0 →
    Is (sum_of k values ts) (dot p ts) d
sum_is k values d p ts v z =
    let none : Is (whole (pos 0)) (pos 0) d = record { positive = omega (arith, ints); ratio = product_zero_left d } in
    let s : pos 0 +ℤ dot p ts ≡ dot p ts = omega (arith, ints) in
    subst (λ (y : ℤ). Is (sum_of k values ts) y d) s (sum_from_is k values d p (whole (pos 0)) (pos 0) ts v z none)

-- what the bound leaves for the column
abbrev pub room : ℤ → (ℕ → ℤ) → DerivedRow → ℤ
room d p r = (r.row.bound *ℤ d) -ℤ dot p r.row.terms

pub end_is : (k : ℕ) (values : List Fraction) (d : ℤ) (p : ℕ → ℤ) (r : DerivedRow) → AreValues values d p → p k ≡ pos 0 → at k r ≢ pos 0 →
    Is (end_of k values r) (room d p r) (at k r *ℤ d)
end_is k values d p r v z n =
    over_is (fraction_minus (whole r.row.bound) (sum_of k values r.row.terms)) (at k r) (room d p r) d n
    (minus_is (whole r.row.bound) (sum_of k values r.row.terms) (r.row.bound *ℤ d) (dot p r.row.terms) d (whole_is r.row.bound d)
    (sum_is k values d p r.row.terms v z))
