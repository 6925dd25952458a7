-- The numbers of a cut at a value that is not whole: both bounds fit.
use Rattle.std.proofs.Common.{◌≡◌, ℕ, zero, suc, ◌*◌, ◌/◌, ◌^◌, ◌<◌, ◌≤◌, ℤ, pos, negsuc, ◌<ℤ◌, refl, arith}
use Rattle.std.specs.Prelude.{unsigned_abs}
use Rattle.std.specs.Int.{int_div_euclid}
use Rattle.std.proofs.Math.Nat.{mul-le-mul_left, div-mul-le_self}
use Rattle.std.proofs.lemmas.Int.{ints}
use Rattle.math_facts.specs.Fits.{Fits}
use Rattle.frac.specs.Fractions.{Fraction, IsFraction}
use Rattle.lin_rows.specs.Negating.{below_opposite}
use Rattle.fm_elim.specs.Quotients.{floor}

cut_numbers : (z d : ℤ) → Fits z → pos 0 <ℤ d → (unsigned_abs d ≡ 1 → ⊥) → Fits (int_div_euclid z d) × Fits (below_opposite (int_div_euclid z d))
cut_numbers z (negsuc d) f p n = absurd (omega (arith, ints))
cut_numbers z (pos zero) f p n = absurd (omega (arith, ints))
cut_numbers z (pos (suc zero)) f p n = absurd (n refl)
cut_numbers (pos a) (pos (suc (suc d))) f p n =
    let m : ℕ = suc (suc d) in
    let q : ℕ = a / m in
    let h : q * m ≤ a = div-mul-le_self a m in
    let k : q * 2 ≤ q * m = mul-le-mul_left q (omega arith) in
    let l : a < 2 ^ 127 = f in
    let g : Fits (pos q) = omega (arith, ints) in
    let i : Fits (below_opposite (pos q)) = omega (arith, ints) in
    (g, i)
cut_numbers (negsuc a) (pos (suc (suc d))) f p n =
    let m : ℕ = suc (suc d) in
    let q : ℕ = a / m in
    let h : q * m ≤ a = div-mul-le_self a m in
    let k : q * 2 ≤ q * m = mul-le-mul_left q (omega arith) in
    let l : suc a < 2 ^ 127 = f in
    let g : Fits (negsuc q) = omega (arith, ints) in
    let i : Fits (below_opposite (negsuc q)) = omega (arith, ints) in
    (g, i)

-- the greatest whole number below the value, and one less than its opposite
pub cut_numbers_fit : (f : Fraction) → IsFraction f → (unsigned_abs f.den ≡ 1 → ⊥) → Fits (floor f) × Fits (below_opposite (floor f))
cut_numbers_fit f v n = cut_numbers f.num f.den v.num_fits v.lowest.positive n
