-- Laws of whole numbers that std lacks: products with sums, with signs and with the order. `omega (arith, ints)` proves
-- what is linear; a product of a sum is one unknown there, so give it the law that multiplies it out.
use Rattle.std.proofs.Common.{◌≡◌, ℕ, ◌*◌, ◌<◌, ℤ, pos, negsuc, ◌+ℤ◌, ◌*ℤ◌, neg_ℤ, ◌≤ℤ◌, ◌<ℤ◌, ◌≢◌, ap, sym, ◌∙◌, arith}
use Rattle.std.proofs.Math.Nat.{mul-le-mul_left}
use Rattle.std.proofs.lemmas.Int.{ints, by_lt_z}
use borrow.Author.Differences.{up, down, sum_is_lem, product_is, neg_is, le_out, lt_out}
use lib.IntN.{*ℤ_comm}

-- ---- products

-- the factors may change places
pub product_comm : (a b : ℤ) → a *ℤ b ≡ b *ℤ a
product_comm a b = *ℤ_comm a b

-- the brackets of three factors may move
pub product_assoc : (a b c : ℤ) → (a *ℤ b) *ℤ c ≡ a *ℤ (b *ℤ c)
product_assoc a b c =
    omega (
      arith,
      ints,
      ap (λ (n : ℕ). n * up c) (product_is a b).0,
      ap (λ (n : ℕ). n * up c) (product_is a b).1,
      ap (λ (n : ℕ). n * down c) (product_is a b).0,
      ap (λ (n : ℕ). n * down c) (product_is a b).1,
      ap (λ (n : ℕ). up a * n) (product_is b c).0,
      ap (λ (n : ℕ). up a * n) (product_is b c).1,
      ap (λ (n : ℕ). down a * n) (product_is b c).0,
      ap (λ (n : ℕ). down a * n) (product_is b c).1,
    )

-- the first two of three factors may change places
pub product_swap : (a b c : ℤ) → a *ℤ (b *ℤ c) ≡ b *ℤ (a *ℤ c)
product_swap a b c = sym (product_assoc a b c) ∙ ap (λ (z : ℤ). z *ℤ c) (*ℤ_comm a b) ∙ product_assoc b a c

-- a factor goes into a sum, from the left
pub distrib_left : (m a b : ℤ) → m *ℤ (a +ℤ b) ≡ (m *ℤ a) +ℤ (m *ℤ b)
distrib_left m a b =
    omega (arith, ints, ap (λ (n : ℕ). up m * n) (sum_is_lem a b), ap (λ (n : ℕ). down m * n) (sum_is_lem a b))

-- a factor goes into a sum, from the right
pub distrib_right : (a b m : ℤ) → (a +ℤ b) *ℤ m ≡ (a *ℤ m) +ℤ (b *ℤ m)
distrib_right a b m =
    omega (arith, ints, ap (λ (n : ℕ). n * up m) (sum_is_lem a b), ap (λ (n : ℕ). n * down m) (sum_is_lem a b))

-- 0 times a number is 0
pub product_zero_left : (a : ℤ) → pos 0 *ℤ a ≡ pos 0
product_zero_left a = omega (arith, ints)

-- a number times 0 is 0
pub product_zero_right : (a : ℤ) → a *ℤ pos 0 ≡ pos 0
product_zero_right a = omega (arith, ints)

-- once a number is that number
pub product_one_left : (a : ℤ) → pos 1 *ℤ a ≡ a
product_one_left a = omega (arith, ints)

-- a number times 1 is that number
pub product_one_right : (a : ℤ) → a *ℤ pos 1 ≡ a
product_one_right a = omega (arith, ints)

-- ---- signs

-- a sign comes out of the first factor
pub product_neg_left : (a b : ℤ) → neg_ℤ a *ℤ b ≡ neg_ℤ (a *ℤ b)
product_neg_left a b =
    omega (
      arith,
      ints,
      ap (λ (n : ℕ). n * up b) (neg_is a).0,
      ap (λ (n : ℕ). n * up b) (neg_is a).1,
      ap (λ (n : ℕ). n * down b) (neg_is a).0,
      ap (λ (n : ℕ). n * down b) (neg_is a).1,
    )

-- a sign comes out of the second factor
pub product_neg_right : (a b : ℤ) → a *ℤ neg_ℤ b ≡ neg_ℤ (a *ℤ b)
product_neg_right a b = *ℤ_comm a (neg_ℤ b) ∙ product_neg_left b a ∙ ap neg_ℤ (*ℤ_comm b a)

-- two signs cancel
pub product_neg_neg : (a b : ℤ) → neg_ℤ a *ℤ neg_ℤ b ≡ a *ℤ b
product_neg_neg a b =
    let e : neg_ℤ a *ℤ neg_ℤ b ≡ neg_ℤ (a *ℤ neg_ℤ b) = product_neg_left a (neg_ℤ b) in
    let f : a *ℤ neg_ℤ b ≡ neg_ℤ (a *ℤ b) = product_neg_right a b in
    omega (arith, ints)

-- a sign goes into a sum
pub neg_sum : (a b : ℤ) → neg_ℤ (a +ℤ b) ≡ neg_ℤ a +ℤ neg_ℤ b
neg_sum a b = omega (arith, ints)

-- ---- products and the order

-- m times keeps the order, where m is not negative
pub product_monotone : (m a b : ℤ) → pos 0 ≤ℤ m → a ≤ℤ b → (m *ℤ a) ≤ℤ (m *ℤ b)
product_monotone (pos m) a b p h = omega (arith, ints, mul-le-mul_left m (le_out a b h))
product_monotone (negsuc m) a b p h = absurd (omega (arith, ints))

-- m times keeps the strict order, where m is positive
pub product_strict : (m a b : ℤ) → pos 0 <ℤ m → a <ℤ b → (m *ℤ a) <ℤ (m *ℤ b)
product_strict (pos m) a b p h = omega (arith, ints, mul-le-mul_left m (lt_out a b h))
product_strict (negsuc m) a b p h = absurd (omega (arith, ints))

-- a natural number of times keeps the order
pub times_monotone : (m : ℕ) (a b : ℤ) → a ≤ℤ b → (pos m *ℤ a) ≤ℤ (pos m *ℤ b)
times_monotone m a b h = product_monotone (pos m) a b (omega (arith, ints)) h

-- a positive number of times keeps the strict order
pub times_strict : (m : ℕ) (a b : ℤ) → 0 < m → a <ℤ b → (pos m *ℤ a) <ℤ (pos m *ℤ b)
times_strict m a b p h = product_strict (pos m) a b (omega (arith, ints)) h

-- a negative factor turns the order
pub product_antitone : (m a b : ℤ) → m ≤ℤ pos 0 → a ≤ℤ b → (m *ℤ b) ≤ℤ (m *ℤ a)
product_antitone m a b p h =
    let k : (neg_ℤ m *ℤ a) ≤ℤ (neg_ℤ m *ℤ b) = product_monotone (neg_ℤ m) a b (omega (arith, ints)) h in
    let e : neg_ℤ m *ℤ a ≡ neg_ℤ (m *ℤ a) = product_neg_left m a in
    let f : neg_ℤ m *ℤ b ≡ neg_ℤ (m *ℤ b) = product_neg_left m b in
    omega (arith, ints)

-- a positive factor may be taken away from both sides of the order
pub cancel_order : (m a b : ℤ) → pos 0 <ℤ m → (m *ℤ a) ≤ℤ (m *ℤ b) → a ≤ℤ b
cancel_order m a b p h =
    by_lt_z b a (λ (l : b <ℤ a). let k : (m *ℤ b) <ℤ (m *ℤ a) = product_strict m b a p l in omega (arith, ints)) (λ (l : a ≤ℤ b). l)

-- the same of the strict order
pub cancel_strict : (m a b : ℤ) → pos 0 ≤ℤ m → (m *ℤ a) <ℤ (m *ℤ b) → a <ℤ b
cancel_strict m a b p h =
    by_lt_z a b (λ (l : a <ℤ b). l) (λ (l : b ≤ℤ a). let k : (m *ℤ b) ≤ℤ (m *ℤ a) = product_monotone m b a p l in omega (arith, ints))

-- a positive factor may be taken away from both sides of an equation
pub positive_cancel : (m a b : ℤ) → pos 0 <ℤ m → m *ℤ a ≡ m *ℤ b → a ≡ b
positive_cancel m a b p e =
    let k : a ≤ℤ b = cancel_order m a b p (omega (arith, ints)) in
    let l : b ≤ℤ a = cancel_order m b a p (omega (arith, ints)) in
    omega (arith, ints)

-- a factor that is not 0 may be taken away from both sides of an equation
pub product_cancel : (m a b : ℤ) → m ≢ pos 0 → m *ℤ a ≡ m *ℤ b → a ≡ b
product_cancel m a b n e =
    by_lt_z (pos 0) m
    (λ (l : pos 0 <ℤ m). positive_cancel m a b l e)
    (λ (l : m ≤ℤ pos 0).
    let f : neg_ℤ m *ℤ a ≡ neg_ℤ (m *ℤ a) = product_neg_left m a in
    let g : neg_ℤ m *ℤ b ≡ neg_ℤ (m *ℤ b) = product_neg_left m b in
    positive_cancel (neg_ℤ m) a b (omega (arith, ints)) (omega (arith, ints)))

-- a product is 0 only where a factor is
pub product_nonzero : (a b : ℤ) → a ≢ pos 0 → b ≢ pos 0 → a *ℤ b ≢ pos 0
product_nonzero a b p q e = q (product_cancel a b (pos 0) p (e ∙ sym (product_zero_right a)))

-- ---- sums

-- the summands of two sums may be paired the other way
pub sum_swap : (a b c d : ℤ) → (a +ℤ b) +ℤ (c +ℤ d) ≡ (a +ℤ c) +ℤ (b +ℤ d)
sum_swap a b c d = omega (arith, ints)
