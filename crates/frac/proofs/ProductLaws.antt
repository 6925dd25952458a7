-- A product whose factors were divided crosswise is in lowest terms (Knuth, 1969).
use Rattle.std.proofs.Common.{◌≡◌, ℕ, ◌*◌, ℤ, pos, ◌*ℤ◌, ◌<ℤ◌, ap, sym, ◌∙◌, subst, arith}
use Rattle.std.specs.Prelude.{unsigned_abs}
use Rattle.std.specs.Int.{IsGcd}
use Rattle.std.proofs.lemmas.Int.{ints, unsigned_abs-mul}
use Rattle.std.proofs.lemmas.Nat.Gcd.{IsGcd-swap}
use Rattle.math_facts.specs.Fits.{Fits}
use Rattle.math_facts.proofs.Whole.{product_comm}
use Rattle.frac.specs.Fractions.{Fraction, IsLowest, IsFraction, IsRatio, IsTooLarge}
use Rattle.frac.specs.Ties.Reduced.{Reduces}
use Rattle.frac.proofs.Factors.{product_pairs, product_inner}
use Rattle.frac.proofs.LowestTerms.{too_large}
use Rattle.frac.proofs.Divisors.{coprime_product, coprime_divisors}
use Rattle.frac.proofs.Sharing.{second_divides, quotients_coprime, positive_quotient, positive_product}

-- two numbers that share nothing with two others share nothing with their product, nor does their product
coprime_products : (p q r s : ℤ) → IsGcd (unsigned_abs p) (unsigned_abs r) 1 → IsGcd (unsigned_abs p) (unsigned_abs s) 1 →
    IsGcd (unsigned_abs q) (unsigned_abs r) 1 → IsGcd (unsigned_abs q) (unsigned_abs s) 1 → IsGcd (unsigned_abs (p *ℤ q)) (unsigned_abs (r *ℤ s)) 1
coprime_products p q r s pr ps qr qs =
    let k : ℕ = unsigned_abs r * unsigned_abs s in
    let first : IsGcd k (unsigned_abs p) 1 = IsGcd-swap (unsigned_abs p) k 1 (coprime_product (unsigned_abs p) (unsigned_abs r) (unsigned_abs s) pr ps) in
    let second : IsGcd k (unsigned_abs q) 1 = IsGcd-swap (unsigned_abs q) k 1 (coprime_product (unsigned_abs q) (unsigned_abs r) (unsigned_abs s) qr qs) in
    let both : IsGcd (unsigned_abs p * unsigned_abs q) k 1 =
    IsGcd-swap k (unsigned_abs p * unsigned_abs q) 1 (coprime_product k (unsigned_abs p) (unsigned_abs q) first second) in
    subst (λ (n : ℕ). IsGcd n (unsigned_abs (r *ℤ s)) 1) (sym (unsigned_abs-mul p q))
    (subst (λ (n : ℕ). IsGcd (unsigned_abs p * unsigned_abs q) n 1) (sym (unsigned_abs-mul r s)) both)

-- the product of the parts that are left
abbrev pub left_over : ℤ → ℤ → ℤ → ℤ → Fraction
left_over p q r s = record { num = p *ℤ q; den = r *ℤ s }

pub product_lowest : (a b : Fraction) (g h p q r s : ℤ) → IsLowest a → IsLowest b → Reduces a.num b.den g p s → Reduces b.num a.den h q r → IsLowest (left_over p q r s)
product_lowest a b g h p q r s la lb ga hb = record {
  positive = positive_product r s (positive_quotient h r a.den hb.positive hb.second la.positive) (positive_quotient g s b.den ga.positive ga.second lb.positive);
  coprime = coprime_products p q r s
      (coprime_divisors (unsigned_abs a.num) (unsigned_abs a.den) (unsigned_abs p) (unsigned_abs r) la.coprime (second_divides g p a.num ga.first) (second_divides h r a.den hb.second))
      (quotients_coprime a.num b.den g p s ga)
      (quotients_coprime b.num a.den h q r hb)
      (coprime_divisors (unsigned_abs b.num) (unsigned_abs b.den) (unsigned_abs q) (unsigned_abs s) lb.coprime (second_divides h q b.num hb.first) (second_divides g s b.den ga.second));
}

pub product_ratio : (a b : Fraction) (g h p q r s : ℤ) → Reduces a.num b.den g p s → Reduces b.num a.den h q r →
    IsRatio (left_over p q r s) (a.num *ℤ b.num) (a.den *ℤ b.den)
product_ratio a b g h p q r s ga hb =
    let under : a.den *ℤ b.den ≡ (h *ℤ g) *ℤ (r *ℤ s) = (λ i. sym hb.second i *ℤ sym ga.second i) ∙ product_pairs h r g s in
    let over : a.num *ℤ b.num ≡ (h *ℤ g) *ℤ (p *ℤ q) = (λ i. sym ga.first i *ℤ sym hb.first i) ∙ product_pairs g p h q ∙ ap (λ (z : ℤ). z *ℤ (p *ℤ q)) (product_comm g h) in
    ap (λ (z : ℤ). (p *ℤ q) *ℤ z) under ∙ product_inner (p *ℤ q) (h *ℤ g) (r *ℤ s) ∙ ap (λ (z : ℤ). z *ℤ (r *ℤ s)) (sym over)

-- what is left is kept where its parts fit
pub product_is_fraction : (a b : Fraction) (g h p q r s : ℤ) → IsLowest a → IsLowest b → Reduces a.num b.den g p s → Reduces b.num a.den h q r →
    Fits (p *ℤ q) → Fits (r *ℤ s) → IsFraction (left_over p q r s)
product_is_fraction a b g h p q r s la lb ga hb n d = record {
  lowest = product_lowest a b g h p q r s la lb ga hb;
  num_fits = n;
  den_fits = d;
}

-- and the product is too large where one of them does not
pub product_too_large : (a b : Fraction) (g h p q r s : ℤ) → IsLowest a → IsLowest b → Reduces a.num b.den g p s → Reduces b.num a.den h q r →
    (Fits (p *ℤ q) × Fits (r *ℤ s) → ⊥) → IsTooLarge (a.num *ℤ b.num) (a.den *ℤ b.den)
product_too_large a b g h p q r s la lb ga hb past =
    let z : pos 0 <ℤ (a.den *ℤ b.den) = positive_product a.den b.den la.positive lb.positive in
    too_large (left_over p q r s) (a.num *ℤ b.num) (a.den *ℤ b.den) (λ e. omega (arith, ints)) (product_lowest a b g h p q r s la lb ga hb)
    (product_ratio a b g h p q r s ga hb) past
