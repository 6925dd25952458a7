-- Tightening: a row divided by the greatest common divisor of its coefficients, with its bound rounded down.
use Rattle.std.specs.Prelude.{ℕ, zero, suc, ◌%◌, ℤ, pos, negsuc, Bool, true, ◌&&◌, List, [], ◌∷◌, map, nat_eq, unsigned_abs, if◌then◌else◌}
use Rattle.std.specs.Int.{int_div_euclid}
use Rattle.lin_rows.specs.declared.types.RowKind.{RowKind}
use Rattle.lin_rows.specs.declared.types.RowKind.TheVariants.{Le, Eq}
use Rattle.lin_rows.specs.Rows.{LinearRow}

-- g divides each coefficient
abbrev pub all_divisible : ℕ → List (ℕ × ℤ) → Bool
all_divisible g [] = true
all_divisible g (t ∷ ts) = nat_eq (unsigned_abs t.1 % g) 0 && all_divisible g ts

-- the greatest number from 1 to n that passes, or 0
abbrev pub greatest : (ℕ → Bool) → ℕ → ℕ
greatest p zero = zero
greatest p (suc n) = if p (suc n) then suc n else greatest p n

-- the greatest number that divides each coefficient; 0 where there is no term
unfoldable pub content : List (ℕ × ℤ) → ℕ
content [] = 0
content (t ∷ ts) = greatest (λ g. all_divisible g (t ∷ ts)) (unsigned_abs t.1)

-- each coefficient divided by g
abbrev pub divided : ℕ → List (ℕ × ℤ) → List (ℕ × ℤ)
divided g ts = map (λ t. (t.0, int_div_euclid t.1 (pos g))) ts

-- no point meets 0 <= -1
abbrev pub never : LinearRow
never = record { terms = []; kind = Le; bound = negsuc 0 }

abbrev pub divided_row : RowKind → ℕ → List (ℕ × ℤ) → ℤ → LinearRow
divided_row Le g ts b = record { terms = divided g ts; kind = Le; bound = int_div_euclid b (pos g) }
divided_row Eq g ts b =
    if nat_eq (unsigned_abs b % g) 0
    then (record { terms = divided g ts; kind = Eq; bound = int_div_euclid b (pos g) })
    else never

-- by the greatest common divisor; a row without terms stays
abbrev pub tightened_by : ℕ → LinearRow → LinearRow
tightened_by zero r = r
tightened_by (suc g) r = divided_row r.kind (suc g) r.terms r.bound

abbrev pub tightened : LinearRow → LinearRow
tightened r = tightened_by (content r.terms) r
