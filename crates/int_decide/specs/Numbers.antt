-- When all numbers of Decide fit.
use Rattle.std.specs.Prelude.{ℕ, zero, suc, ℤ, pos, List, [], ◌∷◌, ◌++◌, Option, None, Some, map}
use Rattle.std.specs.List.{AllByRecursion}
use Rattle.math_facts.specs.Fits.{Fits}
use Rattle.math_facts.specs.Terms.{coefficient}
use Rattle.frac.specs.Fractions.{Fraction}
use Rattle.lin_rows.specs.declared.systems.System.{System}
use Rattle.lin_rows.specs.Rows.{LinearRow}
use Rattle.lin_rows.specs.Tightening.{tightened}
use Rattle.lin_rows.specs.Negating.{below_opposite}
use Rattle.lin_rows.specs.Combinations.{RunFits}
use Rattle.lin_rows.specs.Systems.{rows_of, groups_of}
use Rattle.farkas_check.specs.Nodes.{PlainNode, leaf, cut, cases}
use Rattle.farkas_check.specs.Refutes.{Goal, at_most, above, with_row, goal_with_member, goal_of}
use Rattle.fm_elim.specs.Elimination as outcome
use Rattle.int_decide.specs.Decisions.{Decision, UnlessWhole, WhereRefuted}
use Rattle.int_decide.specs.Sizes.{group_count}
use Rattle.int_decide.specs.Decide.{first_broken, decide_rows, decide_groups, decide}
use Rattle.fm_elim.specs.Quotients.{floor}

-- ---- rows alone: the numbers of each elimination

-- what holds where the first value that is not whole is cut
abbrev pub WhereBroken : (ℕ → ℤ → Type 0) → Option (ℕ × Fraction) → Type 0
WhereBroken P None = Unit {0}
WhereBroken P (Some x) = P x.0 (floor x.1)

abbrev pub WhereCut : (ℕ → ℤ → Type 0) → outcome.EliminationOutcome → Type 0
WhereCut P (outcome.refuted parts) = Unit {0}
WhereCut P (outcome.point values) = WhereBroken P (first_broken 0 values)

-- the second side of a cut counts unless the first has a whole point
abbrev pub RowsFit : ℕ → ℕ → List LinearRow → Type 0
RowsFit n zero rows = outcome.EliminationFits n rows
RowsFit n (suc d) rows = outcome.EliminationFits n rows × WhereCut (λ c k.
    RowsFit n d (rows ++ at_most c k ∷ []) × UnlessWhole (decide_rows n d (rows ++ at_most c k ∷ [])) (RowsFit n d (rows ++ above c k ∷ [])))
    (outcome.elimination n rows)

-- ---- groups

-- each member counts unless one before it has a whole point
abbrev pub EachUntilWhole : {X : Type 0} → (X → Decision) → (X → Type 0) → List X → Type 0
EachUntilWhole decided P [] = Unit {0}
EachUntilWhole decided P (x ∷ xs) = P x × UnlessWhole (decided x) (EachUntilWhole decided P xs)

abbrev pub GroupsFit : ℕ → ℕ → ℕ → List LinearRow → List (List System) → Type 0
GroupsFit f n d rows [] = RowsFit n d rows
GroupsFit zero n d rows (g ∷ gs) = Unit {0}
GroupsFit (suc f) n d rows (g ∷ gs) = EachUntilWhole
    (λ m. decide_groups f n d (rows ++ map tightened (rows_of m)) (gs ++ groups_of m))
    (λ m. GroupsFit f n d (rows ++ map tightened (rows_of m)) (gs ++ groups_of m)) g

-- ---- the numbers of the refutation, where the answer is one: the multipliers, products and running sums of its leaves, and the bounds
-- of the rows of its cuts

pub record LeafFits (rows : List LinearRow) (parts : List (ℕ × ℤ)) : Type 0 where
  pub multipliers_fit : AllByRecursion (λ part. Fits part.1) parts
  pub columns_fit : (c : ℕ) → RunFits (λ r. coefficient c r.terms) rows (pos 0) parts
  pub bound_fits : RunFits (λ r. r.bound) rows (pos 0) parts

abbrev pub CasesFit : (List Goal → Type 0) → List LinearRow → List (List System) → Type 0
CasesFit fit rows [] = Unit {0}
CasesFit fit rows (members ∷ groups) = fit (map (goal_with_member (record { rows = rows; groups = groups })) members)

-- of the trees, one for each goal, in order: the numbers of their leaves, and those of the rows that their cuts add
abbrev pub LeavesFit : List PlainNode → List Goal → Type 0
LeavesFit [] gs = Unit {0}
LeavesFit (n ∷ ns) [] = Unit {0}
LeavesFit (leaf parts ∷ ns) (g ∷ gs) = LeafFits g.rows parts × LeavesFit ns gs
LeavesFit (cut c k ∷ ns) (g ∷ gs) =
    Fits k × Fits (below_opposite k) × LeavesFit ns (with_row g (at_most c k) ∷ with_row g (above c k) ∷ gs)
LeavesFit (cases n ∷ ns) (g ∷ gs) = CasesFit (λ goals. LeavesFit ns (goals ++ gs)) g.rows g.groups

-- ---- all

pub record DecideFits (n d : ℕ) (s : System) : Type 0 where
  pub eliminations : GroupsFit (group_count s) n d (map tightened (rows_of s)) (groups_of s)
  pub leaves : WhereRefuted (decide n d s) (λ ns. LeavesFit ns (goal_of s ∷ []))
