-- When a prefix list of nodes refutes a system: each leaf contradicts the rows that hold there.
use Rattle.std.specs.Prelude.{◌≡◌, ℕ, ℤ, pos, List, [], ◌∷◌, ◌++◌, length, map}
use Rattle.math_facts.specs.Fits.{Fits}
use Rattle.lin_rows.specs.declared.systems.System.{System}
use Rattle.lin_rows.specs.declared.types.RowKind.TheVariants.{Le}
use Rattle.lin_rows.specs.Rows.{LinearRow}
use Rattle.lin_rows.specs.Tightening.{tightened}
use Rattle.lin_rows.specs.Negating.{below_opposite, negated}
use Rattle.lin_rows.specs.Combinations.{Contradicts}
use Rattle.lin_rows.specs.Systems.{rows_of, groups_of}
use Rattle.farkas_check.specs.Nodes.{PlainNode, leaf, cut, cases}

-- what a tree has to refute: tightened rows that all hold, and groups of which a member each holds
pub record Goal : Type 0 where
  pub rows : List LinearRow
  pub groups : List (List System)

-- the row `c <= k`, which is its own tightened row
abbrev pub at_most : ℕ → ℤ → LinearRow
at_most c k = record { terms = (c, pos 1) ∷ []; kind = Le; bound = k }

-- the row `-c <= -k-1`, which holds at the other whole points
abbrev pub above : ℕ → ℤ → LinearRow
above c k = negated (at_most c k)

-- the goal with a row at the end
abbrev pub with_row : Goal → LinearRow → Goal
with_row g r = record { rows = g.rows ++ r ∷ []; groups = g.groups }

-- the goal with the rows, tightened, and the groups of a member at the end
abbrev pub goal_with_member : Goal → System → Goal
goal_with_member g m = record { rows = g.rows ++ map tightened (rows_of m); groups = g.groups ++ groups_of m }

-- the goal that a system poses
abbrev pub goal_of : System → Goal
goal_of s = record { rows = map tightened (rows_of s); groups = groups_of s }

-- the first group is taken away, and there is one case for each member
abbrev pub CasesRefute : (List Goal → Type 0) → ℕ → List LinearRow → List (List System) → Type 0
CasesRefute refute n rows [] = ⊥
CasesRefute refute n rows (members ∷ groups) =
    (n ≡ length members) × refute (map (goal_with_member (record { rows = rows; groups = groups })) members)

-- The list is that of one tree for each goal, in order, and each tree refutes its goal. A leaf contradicts the rows
-- (Farkas, 1902). A cut is at a whole number k for which `k` and `-k-1` fit; its first tree refutes the goal with `c <= k`, its
-- second with `-c <= -k-1`. Cases go by the first group.
abbrev pub Refute : List PlainNode → List Goal → Type 0
Refute [] [] = Unit {0}
Refute [] (g ∷ gs) = ⊥
Refute (n ∷ ns) [] = ⊥
Refute (leaf parts ∷ ns) (g ∷ gs) = Contradicts g.rows parts × Refute ns gs
Refute (cut c k ∷ ns) (g ∷ gs) =
    Fits k × Fits (below_opposite k) × Refute ns (with_row g (at_most c k) ∷ with_row g (above c k) ∷ gs)
Refute (cases n ∷ ns) (g ∷ gs) = CasesRefute (λ goals. Refute ns (goals ++ gs)) n g.rows g.groups

-- the tree refutes the system
abbrev pub Refutes : List PlainNode → System → Type 0
Refutes nodes s = Refute nodes (goal_of s ∷ [])
