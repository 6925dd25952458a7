-- The number of digits, read from the front.
use Rattle.std.proofs.Common.{◌≡◌, ◌∙◌, ℕ, zero, suc, ◌+◌, ◌-◌, ◌*◌, ◌^◌, ◌<◌, ◌≤◌, List, ◌∷◌, length, drop, get_or, Option, None, Some, refl, sym, ap, subst, arith}
use Rattle.std.specs.Prelude.{nat_lt, if◌then◌else◌, Bool, true, false}
use Rattle.std.proofs.Math.Nat.{pow-succ'}
use Rattle.std.proofs.lemmas.List.{drop_more}
use Rattle.std.proofs.lemmas.Bool.{ltb-false}
use Rattle.std.proofs.lemmas.Bool.Decides.{nat_tests}
use Rattle.proof_form.specs.NumberValues.{number}
use Rattle.proof_names.specs.Numbers.{with_digit, if_below}

-- the number of the first digits, in front of the others, is that of all
pub record Reads (digits : List ℕ) (i v : ℕ) : Type 0 where
  pub whole : v * 10 ^ length (drop i digits) + number (drop i digits) ≡ number digits

regroup : (v x p n : ℕ) → v * (10 * p) + (p * x + n) ≡ (v * 10 + x) * p + n
regroup v x p n = omega arith

on : (v d : ℕ) (ds : List ℕ) → v * 10 ^ length (d ∷ ds) + number (d ∷ ds) ≡ with_digit v d * 10 ^ length ds + number ds
on v d ds = ap (λ (p : ℕ). v * p + (10 ^ length ds * (d - 48) + number ds)) (pow-succ' 10 (length ds)) ∙ regroup v (d - 48) (10 ^ length ds) (number ds)

pub reads_on : (digits : List ℕ) (i v d : ℕ) → Reads digits i v → i < length digits → d ≡ get_or digits i 0 → Reads digits (i + 1) (with_digit v d)
reads_on digits i v d h l e = record {
  whole =
      sym (on v d (drop (i + 1) digits)) ∙
      ap (λ ds. v * 10 ^ length ds + number ds) (ap (λ (k : ℕ). k ∷ drop (i + 1) digits) e ∙ sym (drop_more digits i 0 l)) ∙
      h.whole;
}

ten_pos : (n : ℕ) → 0 < 10 ^ n
ten_pos zero = omega arith
ten_pos (suc n) = let h = ten_pos n in let e = pow-succ' 10 n in omega arith

at_least : (v p n : ℕ) → 0 < p → v ≤ v * p + n
at_least v p n h = grind arith

-- the number of all digits is at least that of the first
pub reads_least : (digits : List ℕ) (i v : ℕ) → Reads digits i v → v ≤ number digits
reads_least digits i v h =
    let k = at_least v (10 ^ length (drop i digits)) (number (drop i digits)) (ten_pos (length (drop i digits))) in
    let w = h.whole in
    omega arith

pub below_not : (limit n : ℕ) → limit ≤ n → if_below limit n ≡ None
below_not limit n h = grind (arith, nat_tests)

below_test : (limit n m : ℕ) (b : Bool) → (if b then Some n else None) ≡ Some m → n ≡ m
below_test limit n m true e = cc
below_test limit n m false e = absurd (cc)

pub below_some : (limit n m : ℕ) → if_below limit n ≡ Some m → n ≡ m
below_some limit n m e = below_test limit n m (nat_lt n limit) e

below_none_test : (limit n : ℕ) (b : Bool) → nat_lt n limit ≡ b → (if b then Some n else None) ≡ None → limit ≤ n
below_none_test limit n true t e = absurd (cc)
below_none_test limit n false t e = ltb-false n limit t

pub below_none : (limit n : ℕ) → if_below limit n ≡ None → limit ≤ n
below_none limit n e = below_none_test limit n (nat_lt n limit) refl e

-- one digit more was read
pub reads_next : (digits : List ℕ) (i v w : ℕ) → Reads digits i v → i < length digits → if_below (2 ^ 128) (with_digit v (get_or digits i 0)) ≡ Some w → Reads digits (i + 1) w
reads_next digits i v w h l e =
    let k = below_some (2 ^ 128) (with_digit v (get_or digits i 0)) w e in
    subst (λ (x : ℕ). Reads digits (i + 1) x) k (reads_on digits i v (get_or digits i 0) h l refl)

-- the first digits are at least the limit
pub over : (limit : ℕ) (digits : List ℕ) (i v w : ℕ) → Reads digits i v → i < length digits → if_below (2 ^ 128) (with_digit v (get_or digits i 0)) ≡ Some w → limit ≤ w →
    limit ≤ number digits
over limit digits i v w h l e m = let k = reads_least digits (i + 1) w (reads_next digits i v w h l e) in omega (arith, m, k)

-- the first digits do not fit the type
pub too_many : (limit : ℕ) (digits : List ℕ) (i v : ℕ) (o : Option ℕ) → limit ≤ 2 ^ 127 → Reads digits i v → i < length digits →
    o ≡ if_below (2 ^ 128) (with_digit v (get_or digits i 0)) → o ≡ None → if_below limit (number digits) ≡ None
too_many limit digits i v o f h l e n =
    let k = below_none (2 ^ 128) (with_digit v (get_or digits i 0)) (sym e ∙ n) in
    let m = reads_least digits (i + 1) (with_digit v (get_or digits i 0)) (reads_on digits i v (get_or digits i 0) h l refl) in
    below_not limit (number digits) (large limit (with_digit v (get_or digits i 0)) (number digits) f k m)
  where
    large : (limit v n : ℕ) → limit ≤ 2 ^ 127 → 2 ^ 128 ≤ v → v ≤ n → limit ≤ n
    large limit v n f k m = omega arith
