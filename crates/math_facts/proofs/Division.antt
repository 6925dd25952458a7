-- Division by a positive number, rounded down: `int_div_euclid z (pos g)`.
use Rattle.std.proofs.Common.{◌≡◌, ◌≢◌, ◌↔◌, ℕ, suc, ◌*◌, ◌/◌, ◌%◌, ◌<◌, ◌≤◌, ℤ, pos, negsuc, ◌+ℤ◌, ◌*ℤ◌, ◌≤ℤ◌, ◌<ℤ◌, ap, refl, sym, ◌∙◌, arith, ⊎_elim}
use Rattle.std.specs.Prelude.{unsigned_abs, int_div}
use Rattle.std.specs.Int.{int_div_euclid}
use Rattle.std.proofs.Math.Nat.{div-le_self, mul-mod_right, mul-div_right, mod-eq_of_lt, suc-mod}
use Rattle.std.proofs.lemmas.Bool.{cases_lt}
use Rattle.std.proofs.lemmas.Int.{ints, unsigned_abs-mul}
use Rattle.math_facts.specs.Fits.{Fits}
use Rattle.math_facts.proofs.Whole.{distrib_left, times_monotone, cancel_strict, product_one_right, product_zero_right, positive_cancel}

-- ---- any number

-- the quotient times g is at most the number
pub floor_below : (g : ℕ) (z : ℤ) → 0 < g → (pos g *ℤ int_div_euclid z (pos g)) ≤ℤ z
floor_below g (pos n) p = omega (arith, ints)
floor_below g (negsuc n) p = omega (arith, ints)

-- and one g more is above it
pub floor_above : (g : ℕ) (z : ℤ) → 0 < g → z <ℤ ((pos g *ℤ int_div_euclid z (pos g)) +ℤ pos g)
floor_above g (pos n) p = omega (arith, ints)
floor_above g (negsuc n) p = omega (arith, ints)

-- g times a number is at most z exactly where the number is at most the quotient
pub floor_at_most : (g : ℕ) (s z : ℤ) → 0 < g → ((pos g *ℤ s) ≤ℤ z) ↔ (s ≤ℤ int_div_euclid z (pos g))
floor_at_most g s z p = (down_to g s z p, up_to g s z p)
  where
    down_to : (g : ℕ) (s z : ℤ) → 0 < g → (pos g *ℤ s) ≤ℤ z → s ≤ℤ int_div_euclid z (pos g)
    down_to g s z p h =
        let q : ℤ = int_div_euclid z (pos g) in
        let k : z <ℤ ((pos g *ℤ q) +ℤ pos g) = floor_above g z p in
        let d : pos g *ℤ (q +ℤ pos 1) ≡ (pos g *ℤ q) +ℤ (pos g *ℤ pos 1) = distrib_left (pos g) q (pos 1) in
        let o : pos g *ℤ pos 1 ≡ pos g = product_one_right (pos g) in
        let l : s <ℤ (q +ℤ pos 1) = cancel_strict (pos g) s (q +ℤ pos 1) (omega (arith, ints)) (omega (arith, ints)) in
        omega (arith, ints)

    up_to : (g : ℕ) (s z : ℤ) → 0 < g → s ≤ℤ int_div_euclid z (pos g) → (pos g *ℤ s) ≤ℤ z
    up_to g s z p h =
        let q : ℤ = int_div_euclid z (pos g) in
        let k : (pos g *ℤ s) ≤ℤ (pos g *ℤ q) = times_monotone g s q h in
        let l : (pos g *ℤ q) ≤ℤ z = floor_below g z p in
        omega (arith, ints)

-- a quotient is no larger
pub floor-le_self : (g : ℕ) (z : ℤ) → unsigned_abs (int_div_euclid z (pos g)) ≤ unsigned_abs z
floor-le_self g (pos n) = div-le_self n g
floor-le_self g (negsuc n) = let l : n / g ≤ n = div-le_self n g in omega arith

-- so it fits
pub Fits-floor : (g : ℕ) (z : ℤ) → Fits z → Fits (int_div_euclid z (pos g))
Fits-floor g z f = let l : unsigned_abs (int_div_euclid z (pos g)) ≤ unsigned_abs z = floor-le_self g z in omega arith

-- ---- a number that g divides

-- one before a multiple of g, the quotient is one less
before_multiple : (g n : ℕ) → 0 < g → suc n % g ≡ 0 → g * suc (n / g) ≡ suc n
before_multiple g n p e =
    ⊎_elim
    (λ (l : suc (n % g) < g). let d : suc (n % g) % g ≡ suc (n % g) = mod-eq_of_lt l in let s : suc n % g ≡ suc (n % g) % g = suc-mod n g in omega arith)
    (λ (l : g ≤ suc (n % g)). omega arith)
    (cases_lt (suc (n % g)) g)

-- the quotient times g gives the number back
pub exact : (g : ℕ) (z : ℤ) → 0 < g → unsigned_abs z % g ≡ 0 → pos g *ℤ int_div_euclid z (pos g) ≡ z
exact g (pos n) p e = omega (arith, ints)
exact g (negsuc n) p e = let d : g * suc (n / g) ≡ suc n = before_multiple g n p e in omega (arith, ints)

-- a multiple of g leaves no remainder
pub multiple_rest : (g : ℕ) (q z : ℤ) → pos g *ℤ q ≡ z → unsigned_abs z % g ≡ 0
multiple_rest g q z e = ap (λ (w : ℤ). unsigned_abs w % g) (sym e) ∙ ap (λ (n : ℕ). n % g) (unsigned_abs-mul (pos g) q) ∙ mul-mod_right g (unsigned_abs q)

-- a multiple's quotient is the other factor
pub multiple_floor : (g : ℕ) (q z : ℤ) → 0 < g → pos g *ℤ q ≡ z → int_div_euclid z (pos g) ≡ q
multiple_floor g q z p e =
    positive_cancel (pos g) (int_div_euclid z (pos g)) q (omega (arith, ints)) (exact g z p (multiple_rest g q z e) ∙ sym e)

-- g times a number is z exactly where the number is the quotient
pub exact_equation : (g : ℕ) (s z : ℤ) → 0 < g → unsigned_abs z % g ≡ 0 → (pos g *ℤ s ≡ z) ↔ (s ≡ int_div_euclid z (pos g))
exact_equation g s z p e = (λ h. sym (multiple_floor g s z p h), λ h. ap (λ (w : ℤ). pos g *ℤ w) h ∙ exact g z p e)

-- a quotient of a number that is not 0 is not 0
pub exact-nonzero : (g : ℕ) (z : ℤ) → 0 < g → unsigned_abs z % g ≡ 0 → z ≢ pos 0 → int_div_euclid z (pos g) ≢ pos 0
exact-nonzero g z p e n h = n (sym (exact g z p e) ∙ ap (λ (w : ℤ). pos g *ℤ w) h ∙ product_zero_right (pos g))

-- the quotient rounded toward zero is the same there
pub exact-int_div : (g : ℕ) (z : ℤ) → 0 < g → unsigned_abs z % g ≡ 0 → int_div z (pos g) ≡ int_div_euclid z (pos g)
exact-int_div g (pos n) p e = refl
exact-int_div g (negsuc n) p e =
    let d : suc n / g ≡ suc (n / g) = ap (λ (k : ℕ). k / g) (sym (before_multiple g n p e)) ∙ mul-div_right (suc (n / g)) p in
    rw d
