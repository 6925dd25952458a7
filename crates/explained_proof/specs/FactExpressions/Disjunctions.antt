-- What is known at one of several nodes: what all share, and what is left of each.
use Rattle.std.specs.Prelude.{ℕ, suc, Bool, false, ◌&&◌, ◌||◌, not, nat_lt, nat_eq, List, [], ◌∷◌, map, filter, true}
use Rattle.std.specs.List.{list_all}
use Rattle.explained_proof.specs.FactExpressions.Facts.{Facts, no_facts, is_row, has_cases, implies}

pub record Alternatives : Type 0 where
  pub shared : Facts
  pub rests : List Facts

-- the fact of number n has to be said no more beside that of number k: it implies that one, and of equal ones the first stays
abbrev pub is_covered_by : ℕ → Facts → ℕ → Facts → Bool
is_covered_by k d n c = not (nat_eq k n) && (not d.never && (implies c d && (nat_lt k n || not (implies d c))))

-- one of the facts, which have the numbers from k on, covers it
abbrev pub is_covered_from : ℕ → List Facts → ℕ → Facts → Bool
is_covered_from k [] n c = false
is_covered_from k (d ∷ ds) n c = is_covered_by k d n c || is_covered_from (suc k) ds n c

abbrev pub is_left_out : List Facts → ℕ → Facts → Bool
is_left_out all n c = c.never || is_covered_from 0 all n c

-- which of the facts, which have the numbers from n on, are left out
abbrev pub marks_from : List Facts → ℕ → List Facts → List Bool
marks_from all n [] = []
marks_from all n (c ∷ cs) = is_left_out all n c ∷ marks_from all (suc n) cs

abbrev pub unmarked : List Bool → List Facts → List Facts
unmarked [] cs = []
unmarked (b ∷ bs) [] = []
unmarked (true ∷ bs) (c ∷ cs) = unmarked bs cs
unmarked (false ∷ bs) (c ∷ cs) = c ∷ unmarked bs cs

-- the facts that are not left out
abbrev pub kept : List Facts → List Facts
kept cs = unmarked (marks_from cs 0 cs) cs

-- the parts of the first that each has
abbrev pub shared_by : List Facts → Facts
shared_by [] = no_facts
shared_by (c ∷ cs) = record {
  rows = filter (λ r. list_all (λ d. is_row d.rows r) (c ∷ cs)) c.rows;
  cases = filter (λ f. list_all (λ d. has_cases d.cases f) (c ∷ cs)) c.cases;
  never = false;
}

-- the parts of a fact that are not among those
abbrev pub less : Facts → Facts → Facts
less shared c = record {
  rows = filter (λ r. not (is_row shared.rows r)) c.rows;
  cases = filter (λ f. not (has_cases shared.cases f)) c.cases;
  never = false;
}

abbrev pub either_of_all : List Facts → Alternatives
either_of_all cs = record { shared = shared_by (kept cs); rests = map (less (shared_by (kept cs))) (kept cs) }
