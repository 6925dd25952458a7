-- The values of computed fractions.
use Rattle.std.proofs.Common.{◌≡◌, ◌≢◌, ℕ, zero, suc, ◌%◌, ◌<◌, ℤ, pos, ◌+ℤ◌, ◌-ℤ◌, ◌*ℤ◌, neg_ℤ, ◌<ℤ◌, refl, sym, ap, ◌∙◌, arith}
use Rattle.std.specs.Prelude.{unsigned_abs}
use Rattle.std.specs.Int.{IsGcd}
use Rattle.std.proofs.Math.Nat.{mod-lt}
use Rattle.std.proofs.lemmas.Int.{ints}
use Rattle.std.proofs.lemmas.Nat.Gcd.{IsGcd-from_zero, IsGcd-from_mod, same_from_IsGcd}
use Rattle.math_facts.proofs.Whole.{product_comm, product_assoc, product_cancel, product_nonzero, product_one_left, product_one_right, distrib_right, product_neg_left, product_zero_right, product_strict}
use Rattle.frac.specs.Fractions.{Fraction, IsLowest, IsRatio}
use Rattle.frac.proofs.Factors.{product_right_swap, product_inner}
use Rattle.frac.proofs.Reducing.{reduced_ratio, reduced_lowest}
use Rattle.fm_elim.specs.Quotients.{common_by, common, reduced, whole, fraction_plus, fraction_minus, fraction_times, fraction_over}

common_by_is : (steps a b : ℕ) → b < steps → IsGcd a b (common_by steps a b)
common_by_is zero a b l = absurd (omega arith)
common_by_is (suc steps) a zero l = IsGcd-from_zero a 0 refl
common_by_is (suc steps) a (suc b) l =
    let r : a % suc b < suc b = mod-lt a (omega arith) in
    IsGcd-from_mod a (suc b) (common_by steps (suc b) (a % suc b)) (common_by_is steps (suc b) (a % suc b) (omega arith))

-- Euclid's algorithm gives the greatest common divisor
pub common_is : (a b : ℕ) → IsGcd a b (common a b)
unfolding common
common_is a b = common_by_is (suc b) a b (omega arith)

-- and no other number is one
pub only_common : (a b g : ℕ) → IsGcd a b g → g ≡ common a b
only_common a b g h = same_from_IsGcd a b g (common a b) h (common_is a b)

-- the value of n/d in lowest terms
pub ratio : (n d : ℤ) → IsRatio (reduced n d) n d
unfolding reduced
ratio n d = reduced_ratio n d (common (unsigned_abs n) (unsigned_abs d)) (common_is (unsigned_abs n) (unsigned_abs d))

pub lowest : (n d : ℤ) → d ≢ pos 0 → IsLowest (reduced n d)
unfolding reduced
lowest n d z = reduced_lowest n d (common (unsigned_abs n) (unsigned_abs d)) z (common_is (unsigned_abs n) (unsigned_abs d))

-- it is also the value of each other quotient that is the same
pub reduced_value : (n e m d : ℤ) → e ≢ pos 0 → n *ℤ d ≡ m *ℤ e → IsRatio (reduced n e) m d
reduced_value n e m d z h =
    let f : Fraction = reduced n e in
    product_cancel e (f.num *ℤ d) (m *ℤ f.den) z
    (product_inner e f.num d ∙ ap (λ (x : ℤ). x *ℤ d) (ratio n e) ∙ product_right_swap n f.den d ∙ ap (λ (x : ℤ). x *ℤ f.den) h ∙ sym (product_inner e m f.den))

pub positive_is_not_zero : (d : ℤ) → pos 0 <ℤ d → d ≢ pos 0
positive_is_not_zero d p e = omega (arith, ints)

pub positive_product : (a b : ℤ) → pos 0 <ℤ a → pos 0 <ℤ b → pos 0 <ℤ (a *ℤ b)
positive_product a b p q =
    let k : (a *ℤ pos 0) <ℤ (a *ℤ b) = product_strict a (pos 0) b p q in
    let z : a *ℤ pos 0 ≡ pos 0 = product_zero_right a in
    omega (arith, ints)

-- a fraction with a positive denominator that has the value m/d
pub record Is (f : Fraction) (m d : ℤ) : Type 0 where
  pub positive : pos 0 <ℤ f.den
  pub ratio : IsRatio f m d

pub whole_is : (z d : ℤ) → Is (whole z) (z *ℤ d) d
whole_is z d = record { positive = omega (arith, ints); ratio = sym (product_one_right (z *ℤ d)) }

pub plus_is : (a b : Fraction) (x y d : ℤ) → Is a x d → Is b y d → Is (fraction_plus a b) (x +ℤ y) d
plus_is a b x y d h i =
    let e : ℤ = a.den *ℤ b.den in
    let p : pos 0 <ℤ e = positive_product a.den b.den h.positive i.positive in
    let z : e ≢ pos 0 = positive_is_not_zero e p in
    let s : ((a.num *ℤ b.den) +ℤ (b.num *ℤ a.den)) *ℤ d ≡ ((a.num *ℤ b.den) *ℤ d) +ℤ ((b.num *ℤ a.den) *ℤ d) = distrib_right (a.num *ℤ b.den) (b.num *ℤ a.den) d in
    let l : (a.num *ℤ b.den) *ℤ d ≡ x *ℤ e = product_right_swap a.num b.den d ∙ ap (λ (u : ℤ). u *ℤ b.den) h.ratio ∙ product_assoc x a.den b.den in
    let r : (b.num *ℤ a.den) *ℤ d ≡ y *ℤ e =
    product_right_swap b.num a.den d ∙ ap (λ (u : ℤ). u *ℤ a.den) i.ratio ∙ product_assoc y b.den a.den ∙ ap (λ (u : ℤ). y *ℤ u) (product_comm b.den a.den) in
    let t : (x +ℤ y) *ℤ e ≡ (x *ℤ e) +ℤ (y *ℤ e) = distrib_right x y e in
    record {
      positive = (lowest ((a.num *ℤ b.den) +ℤ (b.num *ℤ a.den)) e z).positive;
      ratio = reduced_value ((a.num *ℤ b.den) +ℤ (b.num *ℤ a.den)) e (x +ℤ y) d z (omega (arith, ints));
    }

pub minus_is : (a b : Fraction) (x y d : ℤ) → Is a x d → Is b y d → Is (fraction_minus a b) (x -ℤ y) d
minus_is a b x y d h i =
    let e : ℤ = a.den *ℤ b.den in
    let p : pos 0 <ℤ e = positive_product a.den b.den h.positive i.positive in
    let z : e ≢ pos 0 = positive_is_not_zero e p in
    let n : ℤ = (a.num *ℤ b.den) -ℤ (b.num *ℤ a.den) in
    let s : ((a.num *ℤ b.den) +ℤ neg_ℤ (b.num *ℤ a.den)) *ℤ d ≡ ((a.num *ℤ b.den) *ℤ d) +ℤ (neg_ℤ (b.num *ℤ a.den) *ℤ d) =
    distrib_right (a.num *ℤ b.den) (neg_ℤ (b.num *ℤ a.den)) d in
    let s2 : neg_ℤ (b.num *ℤ a.den) *ℤ d ≡ neg_ℤ ((b.num *ℤ a.den) *ℤ d) = product_neg_left (b.num *ℤ a.den) d in
    let s3 : n *ℤ d ≡ ((a.num *ℤ b.den) +ℤ neg_ℤ (b.num *ℤ a.den)) *ℤ d = ap (λ (u : ℤ). u *ℤ d) (let q : n ≡ (a.num *ℤ b.den) +ℤ neg_ℤ (b.num *ℤ a.den) = omega (arith, ints) in q) in
    let l : (a.num *ℤ b.den) *ℤ d ≡ x *ℤ e = product_right_swap a.num b.den d ∙ ap (λ (u : ℤ). u *ℤ b.den) h.ratio ∙ product_assoc x a.den b.den in
    let r : (b.num *ℤ a.den) *ℤ d ≡ y *ℤ e =
    product_right_swap b.num a.den d ∙ ap (λ (u : ℤ). u *ℤ a.den) i.ratio ∙ product_assoc y b.den a.den ∙ ap (λ (u : ℤ). y *ℤ u) (product_comm b.den a.den) in
    let t : (x +ℤ neg_ℤ y) *ℤ e ≡ (x *ℤ e) +ℤ (neg_ℤ y *ℤ e) = distrib_right x (neg_ℤ y) e in
    let t2 : neg_ℤ y *ℤ e ≡ neg_ℤ (y *ℤ e) = product_neg_left y e in
    let t3 : (x -ℤ y) *ℤ e ≡ (x +ℤ neg_ℤ y) *ℤ e = ap (λ (u : ℤ). u *ℤ e) (let q : x -ℤ y ≡ x +ℤ neg_ℤ y = omega (arith, ints) in q) in
    record {
      positive = (lowest n e z).positive;
      ratio = reduced_value n e (x -ℤ y) d z (omega (arith, ints));
    }

pub times_is : (m : ℤ) (b : Fraction) (y d : ℤ) → Is b y d → Is (fraction_times (whole m) b) (m *ℤ y) d
times_is m b y d i =
    let e : ℤ = pos 1 *ℤ b.den in
    let o : e ≡ b.den = product_one_left b.den in
    let z : e ≢ pos 0 = λ (u : e ≡ pos 0). positive_is_not_zero b.den i.positive (sym o ∙ u) in
    record {
      positive = (lowest (m *ℤ b.num) e z).positive;
      ratio = reduced_value (m *ℤ b.num) e (m *ℤ y) d z
          (product_assoc m b.num d ∙ ap (λ (u : ℤ). m *ℤ u) i.ratio ∙ sym (product_assoc m y b.den) ∙ ap (λ (u : ℤ). (m *ℤ y) *ℤ u) (sym o));
    }

-- the quotient by a whole number that is not 0
pub over_is : (a : Fraction) (m x d : ℤ) → m ≢ pos 0 → Is a x d → Is (fraction_over a (whole m)) x (m *ℤ d)
over_is a m x d n h =
    let e : ℤ = a.den *ℤ m in
    let z : e ≢ pos 0 = product_nonzero a.den m (positive_is_not_zero a.den h.positive) n in
    let o : a.num *ℤ pos 1 ≡ a.num = product_one_right a.num in
    record {
      positive = (lowest (a.num *ℤ pos 1) e z).positive;
      ratio = reduced_value (a.num *ℤ pos 1) e x (m *ℤ d) z
          (ap (λ (u : ℤ). u *ℤ (m *ℤ d)) o ∙ product_inner a.num m d ∙ product_right_swap m a.num d ∙ product_assoc m d a.num ∙
          ap (λ (u : ℤ). m *ℤ u) (product_comm d a.num ∙ h.ratio) ∙ product_comm m (x *ℤ a.den) ∙ product_assoc x a.den m);
    }
