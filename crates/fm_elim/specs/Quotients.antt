-- Exact fractions, computed in lowest terms.
use Rattle.std.specs.Prelude.{ℕ, zero, suc, ◌/◌, ◌%◌, ℤ, pos, ◌+ℤ◌, ◌-ℤ◌, ◌*ℤ◌, neg_ℤ, Bool, Option, None, Some, unsigned_abs, int_lt, int_le, if◌then◌else◌}
use Rattle.std.specs.Int.{int_div_euclid, int_max, int_min}
use Rattle.math_facts.specs.Fits.{Fits}
use Rattle.frac.specs.Fractions.{Fraction, fraction_opposite}
use Rattle.frac.specs.Signs.{differ_in_sign, with_sign}
use Rattle.frac.specs.Sums.{SumFits}

-- Euclid's algorithm, in as many steps at most
abbrev pub common_by : ℕ → ℕ → ℕ → ℕ
common_by zero a b = a
common_by (suc steps) a zero = a
common_by (suc steps) a (suc b) = common_by steps (suc b) (a % suc b)

-- the greatest common divisor (Euclid, Elements VII)
unfoldable pub common : ℕ → ℕ → ℕ
common a b = common_by (suc b) a b

-- n/d in lowest terms
unfoldable pub reduced : ℤ → ℤ → Fraction
reduced n d =
    let g = common (unsigned_abs n) (unsigned_abs d) in
    record { num = with_sign (differ_in_sign n d) (unsigned_abs n / g); den = pos (unsigned_abs d / g) }

-- a whole number
abbrev pub whole : ℤ → Fraction
whole z = record { num = z; den = pos 1 }

-- a + b
abbrev pub fraction_plus : Fraction → Fraction → Fraction
fraction_plus a b = reduced ((a.num *ℤ b.den) +ℤ (b.num *ℤ a.den)) (a.den *ℤ b.den)

-- a - b
abbrev pub fraction_minus : Fraction → Fraction → Fraction
fraction_minus a b = reduced ((a.num *ℤ b.den) -ℤ (b.num *ℤ a.den)) (a.den *ℤ b.den)

-- a * b
abbrev pub fraction_times : Fraction → Fraction → Fraction
fraction_times a b = reduced (a.num *ℤ b.num) (a.den *ℤ b.den)

-- a / b
abbrev pub fraction_over : Fraction → Fraction → Fraction
fraction_over a b = reduced (a.num *ℤ b.den) (a.den *ℤ b.num)

-- both parts fit
abbrev pub FractionFits : Fraction → Type 0
FractionFits f = Fits f.num × Fits f.den

-- the numbers that a - b forms fit: those of the sum with -b
abbrev pub MinusFits : Fraction → Fraction → Type 0
MinusFits a b = SumFits a (fraction_opposite b)

-- a < b
abbrev pub is_less : Fraction → Fraction → Bool
is_less a b = int_lt (a.num *ℤ b.den) (b.num *ℤ a.den)

-- the greatest whole number that is at most f
abbrev pub floor : Fraction → ℤ
floor f = int_div_euclid f.num f.den

-- the least whole number that is at least f
abbrev pub ceiling : Fraction → ℤ
ceiling f = neg_ℤ (int_div_euclid (neg_ℤ f.num) f.den)

-- Between two ends, of which either may be missing: the whole number nearest 0, or the lower end where there is none.
abbrev pub nearest : Option Fraction → Option Fraction → Fraction
nearest None None = whole (pos 0)
nearest (Some l) None = whole (int_max (ceiling l) (pos 0))
nearest None (Some u) = whole (int_min (pos 0) (floor u))
nearest (Some l) (Some u) =
    if int_le (ceiling l) (floor u) then whole (int_max (ceiling l) (int_min (pos 0) (floor u))) else l
