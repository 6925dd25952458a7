-- Terms in any order, in which columns may repeat, added up.
use Rattle.std.specs.Prelude.{◌≡◌, ℕ, ℤ, List, take}
use Rattle.std.specs.List.{AllByRecursion}
use Rattle.math_facts.specs.Fits.{Fits}
use Rattle.math_facts.specs.Terms.{coefficient}
use Rattle.lin_rows.specs.Ties.Merging.{AreTerms}

-- each given number fits, and so does each running sum of one column, in the order given
pub record TermsFit (given : List (ℕ × ℤ)) : Type 0 where
  pub each : AllByRecursion (λ t. Fits t.1) given
  pub sums : (c k : ℕ) → Fits (coefficient c (take k given))

-- these numbers fit, and add up to this sum
pub record AreSummed (given sum : List (ℕ × ℤ)) : Type 0 where
  pub fits : TermsFit given
  pub terms : AreTerms sum
  pub coefficients : (c : ℕ) → coefficient c sum ≡ coefficient c given
