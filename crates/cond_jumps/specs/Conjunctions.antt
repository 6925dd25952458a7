-- Lists of conjunctions of rows, and how they are put together.
use Rattle.std.specs.Prelude.{ℕ, ◌+◌, Bool, ◌&&◌, ◌||◌, nat_lt, List, [], ◌∷◌, ◌++◌, map, length}
use Rattle.std.specs.List.{list_all}
use Rattle.typed_tree.specs.AffineForm.{fits}
use Rattle.lin_rows.specs.Rows.{LinearRow}

-- rows that hold together, with so many helper columns
pub record Conjunction : Type 0 where
  pub rows : List LinearRow
  pub helpers : ℕ

-- a list of conjunctions, each with its helpers numbered from a given column on
abbrev pub Jumps : Type 0
Jumps = ℕ → List Conjunction

-- the rows of both, the helpers of the second after those of the first
abbrev pub joined : Conjunction → Conjunction → Conjunction
joined c d = record { rows = c.rows ++ d.rows; helpers = c.helpers + d.helpers }

-- each of the conjunctions joined to each of the list, the conjunctions outermost
abbrev pub each_with : List Conjunction → Jumps → Jumps
each_with [] b n = []
each_with (c ∷ cs) b n = map (joined c) (b (n + c.helpers)) ++ each_with cs b n

-- how a list is put together: one list and then another, or "one with the other"
pub data Plan : Type 0 where
  Just : (ℕ → List Conjunction) → Plan
  Then : Plan → Plan → Plan
  With : Plan → Plan → Plan

-- the list of a plan
abbrev pub listed_plan : Plan → ℕ → List Conjunction
listed_plan (Just a) n = a n
listed_plan (Then a b) n = listed_plan a n ++ listed_plan b n
listed_plan (With a b) n = each_with (listed_plan a n) (listed_plan b) n

-- more than 4,096 members
abbrev pub is_long : List Conjunction → Bool
is_long cs = nat_lt 4096 (length cs)

-- the list, or one that is used for a part of it, has more than 4,096 members
abbrev pub is_wide : Plan → ℕ → Bool
is_wide (Just a) n = is_long (a n)
is_wide (Then a b) n = is_long (listed_plan (Then a b) n) || (is_wide a n || is_wide b n)
is_wide (With a b) n = is_long (listed_plan (With a b) n) || (is_wide a n || is_wide b n)

-- each number of a row fits
abbrev pub row_fits : LinearRow → Bool
row_fits r = list_all (λ t. fits t.1) r.terms && fits r.bound

abbrev pub list_fits : List Conjunction → Bool
list_fits cs = list_all (λ c. list_all row_fits c.rows) cs

-- each number of the rows of the list fits, and of each list that is used for a part of it
abbrev pub all_fit : Plan → ℕ → Bool
all_fit (Just a) n = list_fits (a n)
all_fit (Then a b) n = list_fits (listed_plan (Then a b) n) && (all_fit a n && all_fit b n)
all_fit (With a b) n = list_fits (listed_plan (With a b) n) && (all_fit a n && all_fit b n)
