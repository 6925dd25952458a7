-- A sum is in lowest terms once its numerator and the shared divisor are divided by what they share (Knuth, 1969).
use Rattle.std.proofs.Common.{◌≡◌, ℕ, suc, ◌*◌, ◌/◌, ℤ, pos, negsuc, ◌+ℤ◌, ◌*ℤ◌, neg_ℤ, ◌<ℤ◌, ap, sym, ◌∙◌, subst, arith}
use Rattle.std.specs.Prelude.{unsigned_abs}
use Rattle.std.specs.Int.{IsGcd, ◌∣◌}
use Rattle.std.proofs.Math.Nat.{mul-div_cancel', dvd-mul_right, dvd-mul_left_of_dvd, one-dvd}
use Rattle.std.proofs.lemmas.Int.{ints, unsigned_abs-mul}
use Rattle.std.proofs.lemmas.Nat.Gcd.{dvd_refl, IsGcd-swap}
use Rattle.math_facts.specs.Fits.{Fits}
use Rattle.math_facts.proofs.Whole.{product_assoc, product_swap, product_neg_right, product_neg_left, distrib_left, positive_cancel}
use Rattle.frac.specs.Fractions.{Fraction, IsLowest, IsFraction, IsRatio}
use Rattle.frac.specs.Ties.Reduced.{Reduces}
use Rattle.frac.proofs.Factors.{product_pairs, product_inner}
use Rattle.frac.proofs.Divisors.{coprime_product, coprime_divisors}
use Rattle.frac.proofs.Sharing.{second_divides, quotient_fits, quotients_coprime, positive_quotient, positive_product}

-- ---- divisors of sums

-- a multiple of d with its sign
quotient_by : ℕ → ℤ → ℤ
quotient_by d (pos n) = pos (n / d)
quotient_by d (negsuc n) = neg_ℤ (pos (suc n / d))

multiple_is : (d : ℕ) (a : ℤ) → d ∣ unsigned_abs a → pos d *ℤ quotient_by d a ≡ a
unfolding quotient_by
multiple_is d (pos n) h = ap pos (mul-div_cancel' d h)
multiple_is d (negsuc n) h = product_neg_right (pos d) (pos (suc n / d)) ∙ ap (λ (k : ℕ). neg_ℤ (pos k)) (mul-div_cancel' d h)

-- what divides two numbers divides their sum
divides_sum : (d : ℕ) (a b : ℤ) → d ∣ unsigned_abs a → d ∣ unsigned_abs b → d ∣ unsigned_abs (a +ℤ b)
divides_sum d a b h k =
    let x : ℤ = quotient_by d a in
    let y : ℤ = quotient_by d b in
    let e : a +ℤ b ≡ pos d *ℤ (x +ℤ y) = (λ i. sym (multiple_is d a h) i +ℤ sym (multiple_is d b k) i) ∙ sym (distrib_left (pos d) x y) in
    let m : unsigned_abs (a +ℤ b) ≡ d * unsigned_abs (x +ℤ y) = ap unsigned_abs e ∙ unsigned_abs-mul (pos d) (x +ℤ y) in
    subst (λ (n : ℕ). d ∣ n) (sym m) (dvd-mul_right d (unsigned_abs (x +ℤ y)))

-- what divides a number divides its multiples
divides_multiple : (d : ℕ) (m a : ℤ) → d ∣ unsigned_abs a → d ∣ unsigned_abs (m *ℤ a)
divides_multiple d m a h = subst (λ (n : ℕ). d ∣ n) (sym (unsigned_abs-mul m a)) (dvd-mul_left_of_dvd d h (unsigned_abs m))

-- a number plus a multiple of p shares with p what the number shares with it
coprime_shift : (x y p : ℤ) → IsGcd (unsigned_abs x) (unsigned_abs p) 1 → IsGcd (unsigned_abs (x +ℤ (y *ℤ p))) (unsigned_abs p) 1
coprime_shift x y p h =
    let back : (x +ℤ (y *ℤ p)) +ℤ (neg_ℤ y *ℤ p) ≡ x = (let e : neg_ℤ y *ℤ p ≡ neg_ℤ (y *ℤ p) = product_neg_left y p in omega (arith, ints)) in (
      one-dvd (unsigned_abs (x +ℤ (y *ℤ p))),
      one-dvd (unsigned_abs p),
      λ d u v.
          h.2 d (subst (λ (z : ℤ). d ∣ unsigned_abs z) back (divides_sum d (x +ℤ (y *ℤ p)) (neg_ℤ y *ℤ p) u (divides_multiple d (neg_ℤ y) p v))) v,
    )

-- a product of two numbers that share nothing with p, plus a multiple of p, shares nothing with p
coprime_sum : (a q b p : ℤ) → IsGcd (unsigned_abs a) (unsigned_abs p) 1 → IsGcd (unsigned_abs q) (unsigned_abs p) 1 →
    IsGcd (unsigned_abs ((a *ℤ q) +ℤ (b *ℤ p))) (unsigned_abs p) 1
coprime_sum a q b p h k =
    let n : ℕ = unsigned_abs p in
    let m : IsGcd n (unsigned_abs a * unsigned_abs q) 1 =
    coprime_product n (unsigned_abs a) (unsigned_abs q) (IsGcd-swap (unsigned_abs a) n 1 h) (IsGcd-swap (unsigned_abs q) n 1 k) in
    coprime_shift (a *ℤ q) b p
    (subst (λ (z : ℕ). IsGcd z n 1) (sym (unsigned_abs-mul a q)) (IsGcd-swap n (unsigned_abs a * unsigned_abs q) 1 m))

-- ---- the sum in lowest terms

-- the sum of both cross products, where p and q are the denominators divided by what they share
abbrev pub cross_total : Fraction → Fraction → ℤ → ℤ → ℤ
cross_total a b p q = (a.num *ℤ q) +ℤ (b.num *ℤ p)

-- the second denominator divided by h
rest_of : (b g q h k r : ℤ) → pos 0 <ℤ h → g *ℤ q ≡ b → h *ℤ k ≡ g → h *ℤ r ≡ b → r ≡ k *ℤ q
rest_of b g q h k r p e f s =
    positive_cancel h r (k *ℤ q) p (s ∙ sym e ∙ ap (λ (z : ℤ). z *ℤ q) (sym f) ∙ product_assoc h k q)

sum_lowest : (a b : Fraction) (g p q h t k r : ℤ) → IsLowest a → IsLowest b → Reduces a.den b.den g p q →
    Reduces (cross_total a b p q) g h t k → h *ℤ r ≡ b.den → IsLowest (record { num = t; den = p *ℤ r })
sum_lowest a b g p q h t k r la lb under shared e =
    let total : ℤ = cross_total a b p q in
    let n : ℕ = unsigned_abs t in
    let pq : IsGcd (unsigned_abs p) (unsigned_abs q) 1 = quotients_coprime a.den b.den g p q under in
    let swapped : total ≡ (b.num *ℤ p) +ℤ (a.num *ℤ q) = omega (arith, ints) in
    let over_p : IsGcd (unsigned_abs total) (unsigned_abs p) 1 =
    coprime_sum a.num q b.num p
    (coprime_divisors (unsigned_abs a.num) (unsigned_abs a.den) (unsigned_abs a.num) (unsigned_abs p) la.coprime (dvd_refl (unsigned_abs a.num)) (second_divides g p a.den under.first))
    (IsGcd-swap (unsigned_abs p) (unsigned_abs q) 1 pq) in
    let over_q : IsGcd (unsigned_abs total) (unsigned_abs q) 1 =
    subst (λ (z : ℤ). IsGcd (unsigned_abs z) (unsigned_abs q) 1) (sym swapped)
    (coprime_sum b.num p a.num q
    (coprime_divisors (unsigned_abs b.num) (unsigned_abs b.den) (unsigned_abs b.num) (unsigned_abs q) lb.coprime (dvd_refl (unsigned_abs b.num)) (second_divides g q b.den under.second))
    pq) in
    let small : n ∣ unsigned_abs total = second_divides h t total shared.first in
    let tp : IsGcd n (unsigned_abs p) 1 = coprime_divisors (unsigned_abs total) (unsigned_abs p) n (unsigned_abs p) over_p small (dvd_refl (unsigned_abs p)) in
    let tq : IsGcd n (unsigned_abs q) 1 = coprime_divisors (unsigned_abs total) (unsigned_abs q) n (unsigned_abs q) over_q small (dvd_refl (unsigned_abs q)) in
    let tk : IsGcd n (unsigned_abs k) 1 = quotients_coprime total g h t k shared in
    let tr : IsGcd n (unsigned_abs r) 1 =
    subst (λ (z : ℕ). IsGcd n z 1) (sym (ap unsigned_abs (rest_of b.den g q h k r shared.positive under.second shared.second e) ∙ unsigned_abs-mul k q))
    (coprime_product n (unsigned_abs k) (unsigned_abs q) tk tq) in
    record {
      positive = positive_product p r (positive_quotient g p a.den under.positive under.first la.positive) (positive_quotient h r b.den shared.positive e lb.positive);
      coprime = subst (λ (z : ℕ). IsGcd n z 1) (sym (unsigned_abs-mul p r)) (coprime_product n (unsigned_abs p) (unsigned_abs r) tp tr);
    }

pub sum_ratio : (a b : Fraction) (g p q h t k r : ℤ) → Reduces a.den b.den g p q → Reduces (cross_total a b p q) g h t k → h *ℤ r ≡ b.den →
    IsRatio (record { num = t; den = p *ℤ r }) ((a.num *ℤ b.den) +ℤ (b.num *ℤ a.den)) (a.den *ℤ b.den)
sum_ratio a b g p q h t k r under shared e =
    let left : a.num *ℤ b.den ≡ g *ℤ (a.num *ℤ q) = ap (λ (z : ℤ). a.num *ℤ z) (sym under.second) ∙ product_swap a.num g q in
    let right : b.num *ℤ a.den ≡ g *ℤ (b.num *ℤ p) = ap (λ (z : ℤ). b.num *ℤ z) (sym under.first) ∙ product_swap b.num g p in
    let both : (a.num *ℤ b.den) +ℤ (b.num *ℤ a.den) ≡ (g *ℤ h) *ℤ t =
    (λ i. left i +ℤ right i) ∙ sym (distrib_left g (a.num *ℤ q) (b.num *ℤ p)) ∙ ap (λ (z : ℤ). g *ℤ z) (sym shared.first) ∙ sym (product_assoc g h t) in
    let dens : a.den *ℤ b.den ≡ (g *ℤ h) *ℤ (p *ℤ r) = (λ i. sym under.first i *ℤ sym e i) ∙ product_pairs g p h r in
    ap (λ (z : ℤ). t *ℤ z) dens ∙ product_inner t (g *ℤ h) (p *ℤ r) ∙ ap (λ (z : ℤ). z *ℤ (p *ℤ r)) (sym both)

pub sum_is_fraction : (a b : Fraction) (g p q h t k r : ℤ) → IsLowest a → IsLowest b → Reduces a.den b.den g p q →
    Reduces (cross_total a b p q) g h t k → h *ℤ r ≡ b.den → Fits (cross_total a b p q) → Fits (p *ℤ r) → IsFraction (record { num = t; den = p *ℤ r })
sum_is_fraction a b g p q h t k r la lb under shared e total fits = record {
  lowest = sum_lowest a b g p q h t k r la lb under shared e;
  num_fits = quotient_fits h t (cross_total a b p q) shared.positive shared.first total;
  den_fits = fits;
}
