-- What rows with helpers mean at a point: that numbers exist for the helpers, and that they are unique.
use Rattle.std.specs.Prelude.{◌≡◌, ◌⊎◌, ℕ, ◌+◌, ◌<◌, ◌≤◌, ℤ, List, [], ◌∷◌}
use Rattle.std.specs.List.{AllByRecursion}
use Rattle.lin_rows.specs.Rows.{LinearRow, Holds, RowsBelow}
use Rattle.cond_jumps.specs.Conjunctions.{Conjunction, Jumps}

-- q is p below column n
pub record Agrees (n : ℕ) (p q : ℕ → ℤ) : Type 0 where
  pub same : (c : ℕ) → c < n → q c ≡ p c

abbrev pub AllHold : (ℕ → ℤ) → List LinearRow → Type 0
AllHold point rows = AllByRecursion (Holds point) rows

-- numbers for the columns from n on exist with which the rows hold
abbrev pub Extends : ℕ → (ℕ → ℤ) → List LinearRow → Type 0
Extends n p rows = (q : ℕ → ℤ) × Agrees n p q × AllHold q rows

-- a member of the list is met
abbrev pub Meets : ℕ → (ℕ → ℤ) → List Conjunction → Type 0
Meets n p [] = ⊥
Meets n p (c ∷ cs) = Extends n p c.rows ⊎ Meets n p cs

-- two points that are p below n and meet the rows are the same below m
abbrev pub Sole : ℕ → ℕ → (ℕ → ℤ) → List LinearRow → Type 0
Sole n m p rows = (q r : ℕ → ℤ) → Agrees n p q → Agrees n p r → AllHold q rows → AllHold r rows → Agrees m q r

-- at most one member is met, and by one number for each helper
abbrev pub Single : ℕ → (ℕ → ℤ) → List Conjunction → Type 0
Single n p [] = Unit {0}
Single n p (c ∷ cs) = Sole n (n + c.helpers) p c.rows × (Extends n p c.rows → Meets n p cs → ⊥) × Single n p cs

-- each member's rows name columns below n and its helpers alone
abbrev pub Narrow : ℕ → List Conjunction → Type 0
Narrow n [] = Unit {0}
Narrow n (c ∷ cs) = RowsBelow (n + c.helpers) c.rows × Narrow n cs

-- Wherever the helpers begin, from column w on, and at whatever point that is p below w: a member is met exactly where P
-- holds, at most one is, and the helpers are unique.
pub record IsPath (w : ℕ) (p : ℕ → ℤ) (a : Jumps) (P : Type 0) : Type 0 where
  pub narrow : (n : ℕ) → w ≤ n → Narrow n (a n)
  pub so : (n : ℕ) (q : ℕ → ℤ) → w ≤ n → Agrees w p q → Meets n q (a n) → P
  pub back : (n : ℕ) (q : ℕ → ℤ) → w ≤ n → Agrees w p q → P → Meets n q (a n)
  pub single : (n : ℕ) (q : ℕ → ℤ) → w ≤ n → Agrees w p q → Single n q (a n)
