-- The row that given terms add up to, and the sum of two rows.
use Rattle.std.specs.Prelude.{◌≡◌, ℕ, ℤ, pos, negsuc, ◌+ℤ◌, ◌*ℤ◌, ◌≤ℤ◌, Bool, false, List, [], ◌∷◌, ◌++◌, take, nat_eq, nat_lt, if◌then◌else◌, ◌⊎◌}
use Rattle.std.specs.List.{AllByRecursion}
use Rattle.math_facts.specs.Fits.{Fits}
use Rattle.math_facts.specs.Terms.{coefficient, scaled}
use Rattle.lin_rows.specs.declared.types.RowKind.{RowKind}
use Rattle.lin_rows.specs.declared.types.RowKind.TheVariants.{Le, Eq}
use Rattle.lin_rows.specs.Rows.{LinearRow}

abbrev pub is_zero : ℤ → Bool
is_zero (pos n) = nat_eq n 0
is_zero (negsuc n) = false

-- the term in front, unless its coefficient is 0
abbrev pub led_by : ℕ → ℤ → List (ℕ × ℤ) → List (ℕ × ℤ)
led_by c a ts = if is_zero a then ts else (c, a) ∷ ts

-- ascending terms with a added at the column c
abbrev pub added_at : ℕ → ℤ → List (ℕ × ℤ) → List (ℕ × ℤ)
added_at c a [] = led_by c a []
added_at c a (t ∷ ts) =
    if nat_lt c t.0 then led_by c a (t ∷ ts)
    else (if nat_eq c t.0 then led_by c (t.1 +ℤ a) ts else t ∷ added_at c a ts)

-- the terms added up: ascending by column, one term a column, none with the coefficient 0
abbrev pub summed : List (ℕ × ℤ) → List (ℕ × ℤ)
summed [] = []
summed (t ∷ ts) = added_at t.0 t.1 (summed ts)

-- the row of given terms, in which columns may repeat
abbrev pub row_of : List (ℕ × ℤ) → RowKind → ℤ → LinearRow
row_of given kind bound = record { terms = summed given; kind = kind; bound = bound }

-- each given number fits, and so does each running sum of one column, in the order given
pub record SumsFit (given : List (ℕ × ℤ)) (bound : ℤ) : Type 0 where
  pub each : AllByRecursion (λ t. Fits t.1) given
  pub sums : (c k : ℕ) → Fits (coefficient c (take k given))
  pub bound_fits : Fits bound

-- the kind of a sum: an equality exactly where both are
abbrev pub sum_kind : RowKind → RowKind → RowKind
sum_kind Eq Eq = Eq
sum_kind Eq Le = Le
sum_kind Le Eq = Le
sum_kind Le Le = Le

-- a + m*b
abbrev pub scaled_sum : LinearRow → ℤ → LinearRow → LinearRow
scaled_sum a m b = record {
  terms = summed (a.terms ++ scaled m b.terms);
  kind = sum_kind a.kind b.kind;
  bound = a.bound +ℤ (m *ℤ b.bound);
}

-- each product and each sum of a + m*b fits
pub record ScaledFits (a : LinearRow) (m : ℤ) (b : LinearRow) : Type 0 where
  pub products : (c : ℕ) → Fits (m *ℤ coefficient c b.terms)
  pub sums : (c : ℕ) → Fits (coefficient c a.terms +ℤ (m *ℤ coefficient c b.terms))
  pub bound_product : Fits (m *ℤ b.bound)
  pub bound_sum : Fits (a.bound +ℤ (m *ℤ b.bound))

-- a row may be taken m times: m is not negative, or the row is an equality
abbrev pub CanScale : ℤ → RowKind → Type 0
CanScale m kind = (pos 0 ≤ℤ m) ⊎ (kind ≡ Eq)
