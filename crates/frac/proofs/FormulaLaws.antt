-- The numbers that a comparison and a sum form, by the quotients that the code computes.
use Rattle.std.proofs.Common.{◌≡◌, ℕ, ◌<◌, ℤ, pos, ◌+ℤ◌, ◌*ℤ◌, ◌<ℤ◌, Ordering, ap, sym, ◌∙◌, subst}
use Rattle.std.specs.Prelude.{unsigned_abs}
use Rattle.std.specs.Int.{IsGcd, int_div_euclid}
use Rattle.std.specs.Ordering.{MatchOrdering}
use Rattle.std.specs.declared.cmp.Ordering.TheVariants.{Less, Equal, Greater}
use Rattle.std.proofs.lemmas.Nat.Gcd.{same_from_IsGcd}
use Rattle.math_facts.specs.Fits.{Fits}
use Rattle.math_facts.proofs.Whole.{product_swap, product_strict}
use Rattle.math_facts.proofs.Division.{multiple_floor}
use Rattle.frac.specs.Fractions.{Fraction, Compares}
use Rattle.frac.specs.Ties.Reduced.{Reduces}
use Rattle.frac.specs.Sums.{IsDenominatorGcd, cross_product, cross_sum, ComparisonFits, SumFits}
use Rattle.frac.proofs.LowestTerms.{positive_abs}
use Rattle.frac.proofs.Reducing.{positive_nonzero}
use Rattle.frac.proofs.SumLaws.{cross_total}

-- ---- quotients by a greatest common divisor

-- there is only one
only_divisor : (x y : ℕ) (g : ℤ) (n : ℕ) → pos 0 <ℤ g → IsGcd x y (unsigned_abs g) → IsGcd x y n → pos n ≡ g
only_divisor x y g n p h k = ap pos (same_from_IsGcd x y n (unsigned_abs g) k h) ∙ positive_abs g p

-- the quotient by it, rounded down, is the one that the product gives back
quotient_is : (g q z : ℤ) (n : ℕ) → pos 0 <ℤ g → pos n ≡ g → g *ℤ q ≡ z → int_div_euclid z (pos n) ≡ q
quotient_is g q z n p e h =
    let l : 0 < n = subst (λ (m : ℤ). 0 < unsigned_abs m) (sym e) (positive_nonzero g p) in
    multiple_floor n q z l (ap (λ (m : ℤ). m *ℤ q) e ∙ h)

left_is : (a b : Fraction) (g p q : ℤ) (n : ℕ) → Reduces a.den b.den g p q → IsDenominatorGcd a b n → cross_product n a b ≡ a.num *ℤ q
left_is a b g p q n s h =
    let e : pos n ≡ g = only_divisor (unsigned_abs a.den) (unsigned_abs b.den) g n s.positive s.divisor h in
    ap (λ (z : ℤ). a.num *ℤ z) (quotient_is g q b.den n s.positive e s.second)

right_is : (a b : Fraction) (g p q : ℤ) (n : ℕ) → Reduces a.den b.den g p q → IsDenominatorGcd a b n → cross_product n b a ≡ b.num *ℤ p
right_is a b g p q n s h =
    let e : pos n ≡ g = only_divisor (unsigned_abs a.den) (unsigned_abs b.den) g n s.positive s.divisor h in
    ap (λ (z : ℤ). b.num *ℤ z) (quotient_is g p a.den n s.positive e s.first)

-- ---- comparisons

pub comparison_fits : (a b : Fraction) (g p q : ℤ) → Reduces a.den b.den g p q → Fits (a.num *ℤ q) → Fits (b.num *ℤ p) → ComparisonFits a b
comparison_fits a b g p q s l r = λ n h. (subst Fits (sym (left_is a b g p q n s h)) l, subst Fits (sym (right_is a b g p q n s h)) r)

pub comparison_parts : (a b : Fraction) (g p q : ℤ) → Reduces a.den b.den g p q → ComparisonFits a b → Fits (a.num *ℤ q) × Fits (b.num *ℤ p)
comparison_parts a b g p q s f =
    let k = f (unsigned_abs g) s.divisor in
    (subst Fits (left_is a b g p q (unsigned_abs g) s s.divisor) k.0, subst Fits (right_is a b g p q (unsigned_abs g) s s.divisor) k.1)

-- the cross products stand as the values do
pub comparison_order : (a b : Fraction) (g p q : ℤ) (order : Ordering) → Reduces a.den b.den g p q →
    MatchOrdering order ((a.num *ℤ q) <ℤ (b.num *ℤ p)) (a.num *ℤ q ≡ b.num *ℤ p) ((b.num *ℤ p) <ℤ (a.num *ℤ q)) → Compares a b order
comparison_order a b g p q order s =
    by_order order (a.num *ℤ q) (b.num *ℤ p) s.positive
    (ap (λ (z : ℤ). a.num *ℤ z) (sym s.second) ∙ product_swap a.num g q) (ap (λ (z : ℤ). b.num *ℤ z) (sym s.first) ∙ product_swap b.num g p)
  where
    by_order : (order : Ordering) (l r : ℤ) → pos 0 <ℤ g → a.num *ℤ b.den ≡ g *ℤ l → b.num *ℤ a.den ≡ g *ℤ r →
        MatchOrdering order (l <ℤ r) (l ≡ r) (r <ℤ l) → Compares a b order
    by_order Less l r u e f h = rw (e, f) (product_strict g l r u h)
    by_order Equal l r u e f h = e ∙ ap (λ (z : ℤ). g *ℤ z) h ∙ sym f
    by_order Greater l r u e f h = rw (e, f) (product_strict g r l u h)

-- ---- sums

total_is : (a b : Fraction) (g p q : ℤ) (n : ℕ) → Reduces a.den b.den g p q → IsDenominatorGcd a b n → cross_sum n a b ≡ cross_total a b p q
total_is a b g p q n s h = λ i. left_is a b g p q n s h i +ℤ right_is a b g p q n s h i

denominator_is : (a b : Fraction) (g p q h r : ℤ) (n m : ℕ) → Reduces a.den b.den g p q → pos 0 <ℤ h →
    IsGcd (unsigned_abs (cross_total a b p q)) (unsigned_abs g) (unsigned_abs h) → h *ℤ r ≡ b.den → IsDenominatorGcd a b n →
    IsGcd (unsigned_abs (cross_sum n a b)) n m → int_div_euclid a.den (pos n) *ℤ int_div_euclid b.den (pos m) ≡ p *ℤ r
denominator_is a b g p q h r n m s u d e k l =
    let f : pos n ≡ g = only_divisor (unsigned_abs a.den) (unsigned_abs b.den) g n s.positive s.divisor k in
    let total : IsGcd (unsigned_abs (cross_total a b p q)) n m = subst (λ (z : ℤ). IsGcd (unsigned_abs z) n m) (total_is a b g p q n s k) l in
    let both : IsGcd (unsigned_abs (cross_total a b p q)) (unsigned_abs g) m =
    subst (λ (z : ℤ). IsGcd (unsigned_abs (cross_total a b p q)) (unsigned_abs z) m) f total in
    let o : pos m ≡ h = only_divisor (unsigned_abs (cross_total a b p q)) (unsigned_abs g) h m u d both in
    λ i. quotient_is g p a.den n s.positive f s.first i *ℤ quotient_is h r b.den m u o e i

pub sum_fits : (a b : Fraction) (g p q h r : ℤ) → Reduces a.den b.den g p q → pos 0 <ℤ h →
    IsGcd (unsigned_abs (cross_total a b p q)) (unsigned_abs g) (unsigned_abs h) → h *ℤ r ≡ b.den → Fits (a.num *ℤ q) → Fits (b.num *ℤ p) →
    Fits (cross_total a b p q) → Fits (p *ℤ r) → SumFits a b
sum_fits a b g p q h r s u d e left right total under = record {
  products = comparison_fits a b g p q s left right;
  sum = λ n k. subst Fits (sym (total_is a b g p q n s k)) total;
  denominator = λ n m k l. subst Fits (sym (denominator_is a b g p q h r n m s u d e k l)) under;
}

pub sum_total_fits : (a b : Fraction) (g p q : ℤ) → Reduces a.den b.den g p q → SumFits a b → Fits (cross_total a b p q)
sum_total_fits a b g p q s f = subst Fits (total_is a b g p q (unsigned_abs g) s s.divisor) (f.sum (unsigned_abs g) s.divisor)

pub sum_denominator_fits : (a b : Fraction) (g p q h r : ℤ) → Reduces a.den b.den g p q → pos 0 <ℤ h →
    IsGcd (unsigned_abs (cross_total a b p q)) (unsigned_abs g) (unsigned_abs h) → h *ℤ r ≡ b.den → SumFits a b → Fits (p *ℤ r)
sum_denominator_fits a b g p q h r s u d e f =
    let n : ℕ = unsigned_abs g in
    let m : ℕ = unsigned_abs h in
    let l : IsGcd (unsigned_abs (cross_sum n a b)) n m =
    subst (λ (z : ℤ). IsGcd (unsigned_abs z) n m) (sym (total_is a b g p q n s s.divisor)) d in
    subst Fits (denominator_is a b g p q h r n m s u d e s.divisor l) (f.denominator n m s.divisor l)
