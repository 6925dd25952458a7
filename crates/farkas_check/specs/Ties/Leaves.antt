-- What the steps of the test of a leaf answer: its parts are added up one after another, by column.
use Rattle.std.specs.Prelude.{◌≡◌, ◌≢◌, ℕ, ◌+◌, ◌≤◌, ℤ, pos, ◌+ℤ◌, ◌*ℤ◌, ◌<ℤ◌, List, Some, nat_eq}
use Rattle.std.specs.Map.{lookup}
use Rattle.math_facts.specs.Fits.{Fits}
use Rattle.math_facts.specs.Terms.{coefficient}
use Rattle.math_facts.specs.Optional.{or_zero}
use Rattle.lin_rows.specs.Rows.{LinearRow}
use Rattle.lin_rows.specs.Combinations.{row_at, IsPart}

-- the sum of the parts so far: the numbers of its columns, those that are 0 left out, and that of the bounds
pub record PartSum : Type 0 where
  pub kept : List (ℕ × ℤ)
  pub bound : ℤ

-- the number of each column
abbrev pub columns_of : PartSum → ℕ → ℤ
columns_of sum c = or_zero (lookup (nat_eq c) sum.kept)

-- what is kept of the columns: each number fits, and none is 0
pub record AreKept (kept : List (ℕ × ℤ)) : Type 0 where
  pub fits : (c : ℕ) → Fits (or_zero (lookup (nat_eq c) kept))
  pub not_zero : (c : ℕ) → lookup (nat_eq c) kept ≢ Some (pos 0)

-- the part's row exists and has at least the number next, and its multiplier fits and may stand at this row
pub record MayFollow (rows : List LinearRow) (next : ℕ) (t : ℕ × ℤ) : Type 0 where
  pub ascends : next ≤ t.0
  pub is_part : IsPart rows t
  pub fits : Fits t.1

-- the product of each term with m fits, and so does its sum with the number of its column
pub record TermsFit (columns : ℕ → ℤ) (m : ℤ) (ts : List (ℕ × ℤ)) : Type 0 where
  pub products : (c : ℕ) → Fits (m *ℤ coefficient c ts)
  pub sums : (c : ℕ) → Fits (columns c +ℤ (m *ℤ coefficient c ts))

-- m times the terms are added to the numbers of their columns, and each number of it and on the way to it fits
pub record AddsTerms (columns : ℕ → ℤ) (m : ℤ) (ts : List (ℕ × ℤ)) (new : ℕ → ℤ) : Type 0 where
  pub fits : TermsFit columns m ts
  pub values : (c : ℕ) → new c ≡ columns c +ℤ (m *ℤ coefficient c ts)

-- each product and each sum of the sum and m times the row fits
pub record RowFits (sum : PartSum) (m : ℤ) (row : LinearRow) : Type 0 where
  pub terms : TermsFit (columns_of sum) m row.terms
  pub bound_product : Fits (m *ℤ row.bound)
  pub bound_sum : Fits (sum.bound +ℤ (m *ℤ row.bound))

-- the new sum is the sum and m times the row, and each number of it and on the way to it fits
pub record AddsRow (sum : PartSum) (m : ℤ) (row : LinearRow) (new : PartSum) : Type 0 where
  pub fits : RowFits sum m row
  pub columns : (c : ℕ) → columns_of new c ≡ columns_of sum c +ℤ (m *ℤ coefficient c row.terms)
  pub bound : new.bound ≡ sum.bound +ℤ (m *ℤ row.bound)

-- the part may follow, and its row can be added to the sum: each number fits
pub record CanAdd (rows : List LinearRow) (next : ℕ) (sum : PartSum) (t : ℕ × ℤ) : Type 0 where
  pub follows : MayFollow rows next t
  pub fits : RowFits sum t.1 (row_at rows t.0)

-- The part may follow, its row added to the sum gives the new sum, and the rows of later parts have at least the number after.
pub record AddsPart (rows : List LinearRow) (next : ℕ) (sum : PartSum) (t : ℕ × ℤ) (after : ℕ) (new : PartSum) : Type 0 where
  pub follows : MayFollow rows next t
  pub adds : AddsRow sum t.1 (row_at rows t.0) new
  pub after_is : after ≡ t.0 + 1

-- the sum says `0 = c` or `0 <= c` with `c < 0`
pub record IsContradiction (sum : PartSum) : Type 0 where
  pub columns_vanish : (c : ℕ) → columns_of sum c ≡ pos 0
  pub bound_negative : sum.bound <ℤ pos 0
