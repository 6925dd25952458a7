-- Sums that give the same rows.
use Rattle.std.specs.Prelude.{◌≡◌, ℕ}
use Rattle.math_facts.specs.Terms.{coefficient}
use Rattle.cond_jumps.specs.Forms.{Linear}

-- the same coefficient of each column, the same constant, and the same helpers
pub record IsSame (x y : Linear) : Type 0 where
  pub terms : (c : ℕ) → coefficient c x.terms ≡ coefficient c y.terms
  pub constant : x.constant ≡ y.constant
  pub rows : x.rows ≡ y.rows
  pub helpers : x.helpers ≡ y.helpers
