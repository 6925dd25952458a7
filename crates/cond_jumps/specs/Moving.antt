-- Rows whose helper columns are moved: columns from w on become k more.
use Rattle.std.specs.Prelude.{◌≡◌, ℕ, ◌+◌, ◌≤◌, ℤ, Bool, List, map, nat_lt, if◌then◌else◌}
use Rattle.boogie_tree.specs.declared.tree.Column.{Column}
use Rattle.lin_rows.specs.Rows.{LinearRow}
use Rattle.cond_jumps.specs.Conjunctions.{Conjunction, Jumps, Plan, Just, Then, With}
use Rattle.cond_jumps.specs.Forms.{Linear, Linears}
use Rattle.cond_jumps.specs.Environments.{Environment}

abbrev pub moved_column : ℕ → ℕ → ℕ → ℕ
moved_column w k c = if nat_lt c w then c else c + k

abbrev pub moved_terms : ℕ → ℕ → List (ℕ × ℤ) → List (ℕ × ℤ)
moved_terms w k ts = map (λ t. (moved_column w k t.0, t.1)) ts

abbrev pub moved_row : ℕ → ℕ → LinearRow → LinearRow
moved_row w k r = record { terms = moved_terms w k r.terms; kind = r.kind; bound = r.bound }

abbrev pub moved : ℕ → ℕ → Conjunction → Conjunction
moved w k c = record { rows = map (moved_row w k) c.rows; helpers = c.helpers }

-- a list whose helpers are numbered from a later column on is the list with its helpers moved
abbrev pub IsEven : ℕ → Jumps → Type 0
IsEven w a = (n k : ℕ) → w ≤ n → a (n + k) ≡ map (moved w k) (a n)

abbrev pub moved_sum : ℕ → ℕ → Linear → Linear
moved_sum w k x = record { terms = moved_terms w k x.terms; constant = x.constant; rows = map (moved_row w k) x.rows; helpers = x.helpers }

-- the same of a sum
abbrev pub IsEvenSum : ℕ → Linears → Type 0
IsEvenSum w a = (n k : ℕ) → w ≤ n → a (n + k) ≡ moved_sum w k (a n)

-- of each list that is used in a plan
abbrev pub IsEvenPlan : ℕ → Plan → Type 0
IsEvenPlan w (Just a) = IsEven w a
IsEvenPlan w (Then a b) = IsEvenPlan w a × IsEvenPlan w b
IsEvenPlan w (With a b) = IsEvenPlan w a × IsEvenPlan w b

-- of whatever stands for the columns
pub record IsEvenEnvironment (w : ℕ) (v : Environment) : Type 0 where
  pub sums : (c : Column) → IsEvenSum w (v.sum c)
  pub plans : (c : Column) (want : Bool) → IsEvenPlan w (v.plan c want)
