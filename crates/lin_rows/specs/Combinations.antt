-- Rows added up with multipliers (Farkas, 1902): a combination that says `0 <= c` with `c < 0` shows that no point meets them.
use Rattle.std.specs.Prelude.{◌≡◌, ◌≢◌, ℕ, zero, suc, ◌<◌, ℤ, pos, ◌+ℤ◌, ◌*ℤ◌, ◌<ℤ◌, List, [], ◌∷◌, length}
use Rattle.std.specs.List.{AllByRecursion}
use Rattle.math_facts.specs.Fits.{Fits}
use Rattle.math_facts.specs.Terms.{coefficient}
use Rattle.lin_rows.specs.declared.types.RowKind.{RowKind}
use Rattle.lin_rows.specs.declared.types.RowKind.TheVariants.{Le, Eq}
use Rattle.lin_rows.specs.Rows.{LinearRow, AscendsFrom}
use Rattle.lin_rows.specs.Tightening.{never}

-- the row of that number, counted from 0
abbrev pub row_at : List LinearRow → ℕ → LinearRow
row_at [] k = never
row_at (r ∷ rs) zero = r
row_at (r ∷ rs) (suc k) = row_at rs k

-- a row of that kind may be taken m times: not 0 times, and an inequality only a positive number of times
abbrev pub Multiplies : ℤ → RowKind → Type 0
Multiplies m Le = pos 0 <ℤ m
Multiplies m Eq = m ≢ pos 0

-- one part of a combination: the number of a row, and its multiplier
pub record IsPart (rows : List LinearRow) (part : ℕ × ℤ) : Type 0 where
  pub exists : part.0 < length rows
  pub multiplies : Multiplies part.1 (row_at rows part.0).kind

-- the sum of a number of each row, taken as often as the parts say
abbrev pub combined : (LinearRow → ℤ) → List LinearRow → List (ℕ × ℤ) → ℤ
combined number rows [] = pos 0
combined number rows (t ∷ ts) = (t.1 *ℤ number (row_at rows t.0)) +ℤ combined number rows ts

-- from a sum so far on, each product and each running sum fits
abbrev pub RunFits : (LinearRow → ℤ) → List LinearRow → ℤ → List (ℕ × ℤ) → Type 0
RunFits number rows sum [] = Unit {0}
RunFits number rows sum (t ∷ ts) =
    let product = t.1 *ℤ number (row_at rows t.0) in
    Fits product × Fits (sum +ℤ product) × RunFits number rows (sum +ℤ product) ts

-- The combination says `0 <= c` with `c < 0`, and each multiplier and each number on the way fits. The parts ascend by row.
pub record Contradicts (rows : List LinearRow) (parts : List (ℕ × ℤ)) : Type 0 where
  pub ascends : AscendsFrom 0 parts
  pub each : AllByRecursion (IsPart rows) parts
  pub multipliers_fit : AllByRecursion (λ part. Fits part.1) parts
  pub columns_fit : (c : ℕ) → RunFits (λ r. coefficient c r.terms) rows (pos 0) parts
  pub bound_fits : RunFits (λ r. r.bound) rows (pos 0) parts
  pub columns_vanish : (c : ℕ) → combined (λ r. coefficient c r.terms) rows parts ≡ pos 0
  pub bound_negative : combined (λ r. r.bound) rows parts <ℤ pos 0
