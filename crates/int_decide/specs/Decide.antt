-- Decide: whether a system has a whole point, by the elimination, cuts at its points (Gomory, 1958) and cases.
use Rattle.std.specs.Prelude.{ℕ, zero, suc, ℤ, List, [], ◌∷◌, ◌++◌, Option, None, Some, length, map, nat_eq, unsigned_abs, if◌then◌else◌}
use Rattle.frac.specs.Fractions.{Fraction}
use Rattle.lin_rows.specs.declared.systems.System.{System}
use Rattle.lin_rows.specs.Rows.{LinearRow}
use Rattle.lin_rows.specs.Tightening.{tightened}
use Rattle.lin_rows.specs.Systems.{rows_of, groups_of}
use Rattle.farkas_check.specs.Nodes.{leaf, cut, cases}
use Rattle.farkas_check.specs.Refutes.{at_most, above}
use Rattle.fm_elim.specs.Elimination as outcome
use Rattle.fm_elim.specs.Quotients.{floor}
use Rattle.int_decide.specs.Decisions.{Decision, refuted, whole, gap, beside, all_beside, under}
use Rattle.int_decide.specs.Sizes.{group_count}

-- ---- rows alone

-- the first value that is not whole, and its column; the columns are counted from c
abbrev pub first_broken : ℕ → List Fraction → Option (ℕ × Fraction)
first_broken c [] = None
first_broken c (f ∷ fs) = if nat_eq (unsigned_abs f.den) 1 then first_broken (suc c) fs else Some (c, f)

-- values that are all whole are the answer; else it is that of the first that is not
abbrev pub by_values : (ℕ → ℤ → Decision) → List Fraction → Option (ℕ × Fraction) → Decision
by_values broken values None = whole (map (λ f. f.num) values)
by_values broken values (Some x) = broken x.0 (floor x.1)

-- multipliers that refute are a leaf
abbrev pub by_outcome : (ℕ → ℤ → Decision) → outcome.EliminationOutcome → Decision
by_outcome broken (outcome.refuted parts) = refuted (leaf parts ∷ [])
by_outcome broken (outcome.point values) = by_values broken values (first_broken 0 values)

-- rows over the columns below n, with d cuts on a branch at most
abbrev pub decide_rows : ℕ → ℕ → List LinearRow → Decision
decide_rows n zero rows = by_outcome (λ c k. gap) (outcome.elimination n rows)
decide_rows n (suc d) rows =
    by_outcome (λ c k. under (cut c k) (beside (decide_rows n d (rows ++ at_most c k ∷ [])) (decide_rows n d (rows ++ above c k ∷ []))))
    (outcome.elimination n rows)

-- ---- groups

-- The first group is taken away, and each of its members decided in order as a case: its rows, tightened, and its groups come to the end.
-- At most f groups are taken away on a branch; `group_count` is enough.
abbrev pub decide_groups : ℕ → ℕ → ℕ → List LinearRow → List (List System) → Decision
decide_groups f n d rows [] = decide_rows n d rows
decide_groups zero n d rows (g ∷ gs) = gap
decide_groups (suc f) n d rows (g ∷ gs) =
    under (cases (length g)) (all_beside (map (λ m. decide_groups f n d (rows ++ map tightened (rows_of m)) (gs ++ groups_of m)) g))

-- a system over the columns below n, with d cuts on a branch at most
abbrev pub decide : ℕ → ℕ → System → Decision
decide n d s = decide_groups (group_count s) n d (map tightened (rows_of s)) (groups_of s)
