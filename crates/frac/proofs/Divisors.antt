-- Laws of greatest common divisors that std lacks.
use Rattle.std.proofs.Common.{◌≡◌, ℕ, zero, suc, ◌+◌, ◌*◌, ◌/◌, ◌%◌, ◌<◌, ap, refl, sym, subst, ◌∙◌, arith}
use Rattle.std.specs.Int.{IsGcd, ◌∣◌}
use Rattle.std.proofs.Math.Nat.{mod-lt, div-add-mod, dvd-zero, mul-div-mul_left, mul_comm, mul-one, dvd-mul_left, one-dvd, mul-dvd-mul_left, dvd_of_mul-dvd-mul_left}
use Rattle.std.proofs.lemmas.Nat.Gcd.{dvd_trans, IsGcd-from_zero, IsGcd-from_mod, same_from_IsGcd}

-- a common factor comes out of a remainder
rest_scaled : (c a b : ℕ) → 0 < c → (c * a) % (c * b) ≡ c * (a % b)
rest_scaled c a b p =
    let d : (c * b) * ((c * a) / (c * b)) ≡ (c * b) * (a / b) = ap (λ (q : ℕ). (c * b) * q) (mul-div-mul_left a b p) in
    let e : (c * b) * ((c * a) / (c * b)) + (c * a) % (c * b) ≡ c * a = div-add-mod (c * a) (c * b) in
    let f : c * (b * (a / b) + a % b) ≡ c * a = ap (λ (n : ℕ). c * n) (div-add-mod a b) in
    omega arith

-- a common factor comes out of the greatest common divisor
scaled_gcd : (c fuel a b : ℕ) → 0 < c → b < fuel → (g : ℕ) × (IsGcd a b g × IsGcd (c * a) (c * b) (c * g))
scaled_gcd c zero a b p l = absurd (omega arith)
scaled_gcd c (suc fuel) a zero p l = (a, (IsGcd-from_zero a 0 refl, IsGcd-from_zero (c * a) (c * 0) (omega arith)))
scaled_gcd c (suc fuel) a (suc b) p l =
    let r : a % suc b < suc b = mod-lt a (omega arith) in
    let k = scaled_gcd c fuel (suc b) (a % suc b) p (omega arith) in
    let e : (c * a) % (c * suc b) ≡ c * (a % suc b) = rest_scaled c a (suc b) p in
    (k.0, (IsGcd-from_mod a (suc b) k.0 k.1.0, IsGcd-from_mod (c * a) (c * suc b) (c * k.0) (subst (λ (n : ℕ). IsGcd (c * suc b) n (c * k.0)) (sym e) k.1.1)))

-- what divides a product and shares nothing with the first factor divides the second (Gauss)
pub divides_second : (a b c : ℕ) → IsGcd a b 1 → b ∣ a * c → b ∣ c
divides_second a b zero h d = dvd-zero b
divides_second a b (suc c) h d =
    let k = scaled_gcd (suc c) (suc b) a b (omega arith) (omega arith) in
    let one : k.0 ≡ 1 = same_from_IsGcd a b k.0 1 k.1.0 h in
    let e : suc c * k.0 ≡ suc c = ap (λ (n : ℕ). suc c * n) one ∙ mul-one (suc c) in
    subst (λ (n : ℕ). b ∣ n) e (k.1.1.2 b (subst (λ (n : ℕ). b ∣ n) (mul_comm a (suc c)) d) (dvd-mul_left b (suc c)))

-- a number that shares nothing with two numbers shares nothing with their product
pub coprime_product : (a b c : ℕ) → IsGcd a b 1 → IsGcd a c 1 → IsGcd a (b * c) 1
coprime_product a b c h k =
    (one-dvd a, one-dvd (b * c), λ d p q. k.2 d p (divides_second b d c (one-dvd b, one-dvd d, λ e u v. h.2 e (dvd_trans e v p) u) q))

-- two numbers that are divided by their greatest common divisor share nothing any more
pub coprime_quotients : (a b g p q : ℕ) → 0 < g → IsGcd a b g → a ≡ g * p → b ≡ g * q → IsGcd p q 1
coprime_quotients a b g p q l h e f = (
  one-dvd p,
  one-dvd q,
  λ d u v.
      dvd_of_mul-dvd-mul_left {k = g} d l
      (subst (λ (n : ℕ). g * d ∣ n) (sym (mul-one g))
      (h.2 (g * d) (subst (λ (n : ℕ). g * d ∣ n) (sym e) (mul-dvd-mul_left d g u)) (subst (λ (n : ℕ). g * d ∣ n) (sym f) (mul-dvd-mul_left d g v)))),
)

-- divisors of two numbers that share nothing share nothing
pub coprime_divisors : (a b p q : ℕ) → IsGcd a b 1 → p ∣ a → q ∣ b → IsGcd p q 1
coprime_divisors a b p q h u v = (one-dvd p, one-dvd q, λ d x y. h.2 d (dvd_trans d x u) (dvd_trans d y v))
