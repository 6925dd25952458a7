-- Rows derived from tightened input rows, each with the multipliers that make it from them.
use Rattle.std.specs.Prelude.{ℕ, suc, ℤ, pos, Bool, true, false, ◌&&◌, not, List, [], ◌∷◌, int_lt, if◌then◌else◌}
use Rattle.math_facts.specs.Terms.{coefficient, opposite}
use Rattle.lin_rows.specs.declared.types.RowKind.{RowKind}
use Rattle.lin_rows.specs.declared.types.RowKind.TheVariants.{Le, Eq}
use Rattle.lin_rows.specs.Rows.{LinearRow}
use Rattle.lin_rows.specs.Sums.{is_zero, scaled_sum, ScaledFits}
use Rattle.lin_rows.specs.Tightening.{tightened}

-- a row, and its multipliers: an equation over the numbers of the input rows
pub record DerivedRow : Type 0 where
  pub row : LinearRow
  pub by : LinearRow

-- a tightened input row, taken once
abbrev pub input : ℕ → LinearRow → DerivedRow
input n r = record { row = tightened r; by = record { terms = (n, pos 1) ∷ []; kind = Eq; bound = pos 0 } }

-- the input rows, tightened, with their numbers from n on
abbrev pub inputs : ℕ → List LinearRow → List DerivedRow
inputs n [] = []
inputs n (r ∷ rs) = input n r ∷ inputs (suc n) rs

-- the inequality `0 <= 0`, from no row
abbrev pub nothing_derived : DerivedRow
nothing_derived = record {
  row = record { terms = []; kind = Le; bound = pos 0 };
  by = record { terms = []; kind = Eq; bound = pos 0 };
}

-- a + m*b, row and multipliers
abbrev pub plus_times : DerivedRow → ℤ → DerivedRow → DerivedRow
plus_times a m b = record { row = scaled_sum a.row m b.row; by = scaled_sum a.by m b.by }

-- its products and sums fit
abbrev pub PlusTimesFits : DerivedRow → ℤ → DerivedRow → Type 0
PlusTimesFits a m b = ScaledFits a.row m b.row × ScaledFits a.by m b.by

-- the row's coefficient of a column
abbrev pub at : ℕ → DerivedRow → ℤ
at k r = coefficient k r.row.terms

-- the column stands in the row
abbrev pub has : ℕ → DerivedRow → Bool
has k r = not (is_zero (at k r))

-- with a positive coefficient: the row is an upper bound of the column
abbrev pub is_upper : ℕ → DerivedRow → Bool
is_upper k r = int_lt (pos 0) (at k r)

-- with a negative one: it is a lower bound
abbrev pub is_lower : ℕ → DerivedRow → Bool
is_lower k r = int_lt (at k r) (pos 0)

abbrev pub is_equality : RowKind → Bool
is_equality Le = false
is_equality Eq = true

-- `0 <= b` or `0 = b` does not hold
abbrev pub is_false_bound : RowKind → ℤ → Bool
is_false_bound Le b = int_lt b (pos 0)
is_false_bound Eq b = not (is_zero b)

abbrev pub has_no_terms : List (ℕ × ℤ) → Bool
has_no_terms [] = true
has_no_terms (t ∷ ts) = false

-- a row without terms that does not hold
abbrev pub is_false : DerivedRow → Bool
is_false r = has_no_terms r.row.terms && is_false_bound r.row.kind r.row.bound

-- The multipliers with which such a row refutes: `0 = b` with `b > 0` refutes by those with the other sign.
abbrev pub refuting : DerivedRow → List (ℕ × ℤ)
refuting r = if is_equality r.row.kind && int_lt (pos 0) r.row.bound then opposite r.by.terms else r.by.terms
