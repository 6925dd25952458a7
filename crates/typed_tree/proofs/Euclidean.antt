-- Division whose remainder is never negative.
use Rattle.std.proofs.Common.{◌≡◌, ℕ, zero, suc, ◌+◌, ◌*◌, ◌/◌, ◌%◌, ◌<◌, ℤ, pos, negsuc, neg_ℤ, ◌+ℤ◌, ◌*ℤ◌, ◌≤ℤ◌, ◌<ℤ◌, Bool, false, nat_eq, if◌then◌else◌, ap, sym, ◌∙◌, subst, arith}
use Rattle.std.specs.Prelude.{unsigned_abs}
use Rattle.std.specs.Int.{int_div_euclid, int_rem_euclid}
use Rattle.std.proofs.lemmas.Bool.Decides.{nat_tests}
use Rattle.std.proofs.lemmas.Int.{ints}
use Rattle.typed_tree.specs.Laws.{DivAndMod}

-- the product of two numbers that are not positive
both_negative : (g q : ℕ) → negsuc g *ℤ neg_ℤ (pos q) ≡ pos (suc g * q)
both_negative g zero = omega (arith, ints)
both_negative g (suc q) = omega (arith, ints)

whole : (a k : ℤ) → 0 < unsigned_abs k → a ≡ ((k *ℤ int_div_euclid a k) +ℤ int_rem_euclid a k)
whole (pos n) (pos zero) p = absurd (omega arith)
whole (pos n) (pos (suc g)) p = let e : n ≡ suc g * (n / suc g) + n % suc g = omega arith in ap (λ (m : ℕ). pos m) e
whole (pos n) (negsuc g) p =
    let e : n ≡ suc g * (n / suc g) + n % suc g = omega arith in
    ap (λ (m : ℕ). pos m) e ∙ ap (λ (z : ℤ). z +ℤ pos (n % suc g)) (sym (both_negative g (n / suc g)))
whole (negsuc n) (pos zero) p = absurd (omega arith)
whole (negsuc n) (pos (suc g)) p =
    let e : n ≡ suc g * (n / suc g) + n % suc g = omega arith in
    let l : n % suc g < suc g = omega arith in omega (arith, ints)
whole (negsuc n) (negsuc g) p =
    let e : n ≡ suc g * (n / suc g) + n % suc g = omega arith in
    let l : n % suc g < suc g = omega arith in omega (arith, ints)

not_negative : (a k : ℤ) → 0 < unsigned_abs k → pos 0 ≤ℤ int_rem_euclid a k
not_negative (pos n) k p = omega (arith, ints)
not_negative (negsuc n) k p = omega (arith, ints)

below : (a k : ℤ) → 0 < unsigned_abs k → int_rem_euclid a k <ℤ pos (unsigned_abs k)
below (pos n) k p = let l : n % unsigned_abs k < unsigned_abs k = omega arith in omega (arith, ints)
below (negsuc n) k p = omega (arith, ints)

above : (n : ℕ) → nat_eq n 0 ≡ false → 0 < n
above n h = grind (arith, nat_tests)

pub euclidean : DivAndMod
euclidean a k h =
    let p : 0 < unsigned_abs k = above (unsigned_abs k) h in
    subst
    (λ (b : Bool). (a ≡ ((k *ℤ (if b then pos 0 else int_div_euclid a k)) +ℤ (if b then pos 0 else int_rem_euclid a k)))
    × (pos 0 ≤ℤ (if b then pos 0 else int_rem_euclid a k)) × ((if b then pos 0 else int_rem_euclid a k) <ℤ pos (unsigned_abs k)))
    (sym h) (whole a k p, not_negative a k p, below a k p)
