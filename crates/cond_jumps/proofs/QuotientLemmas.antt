-- A quotient is the only number that meets its two rows.
use Rattle.std.proofs.Common.{◌≡◌, ℕ, zero, suc, ℤ, pos, negsuc, ◌+ℤ◌, ◌-ℤ◌, ◌*ℤ◌, neg_ℤ, ◌≤ℤ◌, ◌<ℤ◌, false, arith}
use Rattle.std.specs.Prelude.{unsigned_abs}
use Rattle.std.proofs.lemmas.Int.{ints}
use Rattle.math_facts.proofs.Whole.{distrib_left, product_one_right, product_neg_left, product_neg_right, cancel_strict}
use Rattle.typed_tree.specs.Values.{value_is_zero, div_of, mod_of}
use Rattle.typed_tree.proofs.Euclidean.{euclidean}

-- the rows of the helper of a quotient, at amounts
pub record IsBetween (k a q : ℤ) : Type 0 where
  pub low : (k *ℤ q) ≤ℤ a
  pub high : (a -ℤ (k *ℤ q)) ≤ℤ (pos (unsigned_abs k) -ℤ pos 1)

-- the quotient meets them
pub quotient_between : (a k : ℤ) → value_is_zero k ≡ false → IsBetween k a (div_of a k)
quotient_between a k h =
    let e = euclidean a k h in
    let whole : a ≡ (k *ℤ div_of a k) +ℤ mod_of a k = e.0 in
    let from : pos 0 ≤ℤ mod_of a k = e.1 in
    let to : mod_of a k <ℤ pos (unsigned_abs k) = e.2 in
    record { low = omega (arith, ints); high = omega (arith, ints) }

-- multiples of a positive number in reach of one number
near : (g : ℕ) (a q d : ℤ) → (pos (suc g) *ℤ q) ≤ℤ a → a <ℤ ((pos (suc g) *ℤ d) +ℤ pos (suc g)) → q ≤ℤ d
near g a q d l h =
    let e : pos (suc g) *ℤ (d +ℤ pos 1) ≡ (pos (suc g) *ℤ d) +ℤ (pos (suc g) *ℤ pos 1) = distrib_left (pos (suc g)) d (pos 1) in
    let o : pos (suc g) *ℤ pos 1 ≡ pos (suc g) = product_one_right (pos (suc g)) in
    let k : q <ℤ (d +ℤ pos 1) = cancel_strict (pos (suc g)) q (d +ℤ pos 1) (omega (arith, ints)) (omega (arith, ints)) in
    omega (arith, ints)

one_multiple : (g : ℕ) (a q d : ℤ) → (pos (suc g) *ℤ q) ≤ℤ a → a <ℤ ((pos (suc g) *ℤ q) +ℤ pos (suc g)) →
    (pos (suc g) *ℤ d) ≤ℤ a → a <ℤ ((pos (suc g) *ℤ d) +ℤ pos (suc g)) → q ≡ d
one_multiple g a q d l h m i =
    let x : q ≤ℤ d = near g a q d l i in
    let y : d ≤ℤ q = near g a d q m h in
    omega (arith, ints)

-- two numbers that meet them are equal
pub between_once : (k a q d : ℤ) → value_is_zero k ≡ false → IsBetween k a q → IsBetween k a d → q ≡ d
between_once (pos zero) a q d h x y = absurd (cc)
between_once (pos (suc g)) a q d h x y =
    let l : (pos (suc g) *ℤ q) ≤ℤ a = x.low in
    let i : (a -ℤ (pos (suc g) *ℤ q)) ≤ℤ (pos (suc g) -ℤ pos 1) = x.high in
    let m : (pos (suc g) *ℤ d) ≤ℤ a = y.low in
    let j : (a -ℤ (pos (suc g) *ℤ d)) ≤ℤ (pos (suc g) -ℤ pos 1) = y.high in
    one_multiple g a q d l (omega (arith, ints)) m (omega (arith, ints))
between_once (negsuc g) a q d h x y =
    let l : (negsuc g *ℤ q) ≤ℤ a = x.low in
    let i : (a -ℤ (negsuc g *ℤ q)) ≤ℤ (pos (suc g) -ℤ pos 1) = x.high in
    let m : (negsuc g *ℤ d) ≤ℤ a = y.low in
    let j : (a -ℤ (negsuc g *ℤ d)) ≤ℤ (pos (suc g) -ℤ pos 1) = y.high in
    let u : negsuc g *ℤ q ≡ neg_ℤ (pos (suc g) *ℤ q) = product_neg_left (pos (suc g)) q in
    let v : negsuc g *ℤ d ≡ neg_ℤ (pos (suc g) *ℤ d) = product_neg_left (pos (suc g)) d in
    let f : pos (suc g) *ℤ neg_ℤ q ≡ neg_ℤ (pos (suc g) *ℤ q) = product_neg_right (pos (suc g)) q in
    let w : pos (suc g) *ℤ neg_ℤ d ≡ neg_ℤ (pos (suc g) *ℤ d) = product_neg_right (pos (suc g)) d in
    let e : neg_ℤ q ≡ neg_ℤ d = one_multiple g a (neg_ℤ q) (neg_ℤ d) (omega (arith, ints)) (omega (arith, ints)) (omega (arith, ints)) (omega (arith, ints)) in
    omega (arith, ints)
