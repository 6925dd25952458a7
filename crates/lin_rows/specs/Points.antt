-- Points given by a list of values, and the numbers that a row's value at a point forms.
use Rattle.std.specs.Prelude.{ℕ, zero, suc, ℤ, pos, ◌+ℤ◌, ◌*ℤ◌, List, [], ◌∷◌, length}
use Rattle.math_facts.specs.Fits.{Fits}
use Rattle.math_facts.specs.Terms.{IsBelow}
use Rattle.lin_rows.specs.Rows.{LinearRow, Holds}

-- the point with these values; 0 past the last
abbrev pub point_of : List ℤ → ℕ → ℤ
point_of [] c = pos 0
point_of (v ∷ vs) zero = v
point_of (v ∷ vs) (suc c) = point_of vs c

-- from a sum so far on, each product of a coefficient with its value and each running sum fits
abbrev pub DotFits : (ℕ → ℤ) → ℤ → List (ℕ × ℤ) → Type 0
DotFits point sum [] = Unit {0}
DotFits point sum (t ∷ ts) =
    let product = t.1 *ℤ point t.0 in
    Fits product × Fits (sum +ℤ product) × DotFits point (sum +ℤ product) ts

-- the terms can be added up at the point with these values: each column has one, and each product and each running sum fits
pub record HasSum (values : List ℤ) (terms : List (ℕ × ℤ)) : Type 0 where
  pub below : IsBelow (length values) terms
  pub fits : DotFits (point_of values) (pos 0) terms

-- the row is seen to hold at the point with these values
pub record IsSeenToHold (values : List ℤ) (row : LinearRow) : Type 0 where
  pub sum : HasSum values row.terms
  pub holds : Holds (point_of values) row
