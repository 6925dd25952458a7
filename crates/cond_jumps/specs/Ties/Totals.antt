-- Terms of the code as contracts see them, and their columns in order.
use Rattle.std.specs.Prelude.{◌≡◌, ℕ, ℤ, nat_lt, List, [], ◌∷◌, map, Option, None, Some, if◌then◌else◌}
use Rattle.std.specs.List.{AllByRecursion}
use Rattle.math_facts.specs.Fits.{Fits}
use Rattle.math_facts.specs.Terms.{coefficient}
use Rattle.lin_rows.specs.Rows.{AscendsFrom}
use Rattle.cond_jumps.specs.declared.totals.Term.{Term}
use Rattle.cond_jumps.specs.LongView.{long}

abbrev pub terms_of : List Term → List (ℕ × ℤ)
terms_of ts = map (λ t. (t.column, long t.coefficient)) ts

-- the lesser of the column c and the one found so far, where c is not below the bound
abbrev pub lesser : ℕ → Option ℕ → ℕ → Option ℕ
lesser low None c = if nat_lt c low then None else Some c
lesser low (Some b) c = if nat_lt c low then Some b else (if nat_lt c b then Some c else Some b)

-- the least column that is not below the bound, of one found so far and those of the terms
abbrev pub least : ℕ → Option ℕ → List (ℕ × ℤ) → Option ℕ
least low best [] = best
least low best (t ∷ ts) = least low (lesser low best t.0) ts

-- each total of a column fits
abbrev pub TotalsFit : List (ℕ × ℤ) → Type 0
TotalsFit ts = (c : ℕ) → Fits (coefficient c ts)

-- the totals of the columns, ascending, each of which fits
pub record AreTotals (given sums : List (ℕ × ℤ)) : Type 0 where
  pub ascends : AscendsFrom 0 sums
  pub fit : AllByRecursion (λ t. Fits t.1) sums
  pub same : (c : ℕ) → coefficient c sums ≡ coefficient c given
