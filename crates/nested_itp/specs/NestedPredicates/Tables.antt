-- The nodes of predicates along a refutation: its branches, one after another, and for each node one at each position.
use Rattle.std.specs.Prelude.{◌≡◌, ℕ, suc, ◌*◌, ◌<◌, ◌≤◌, ◌&&◌, nat_lt, List, [], ◌∷◌, map, take, reverse, length, Option, None, Some, if◌then◌else◌}
use Rattle.std.specs.List.{AllByRecursion}
use Rattle.math_facts.specs.Fits.{Fits}
use Rattle.lin_rows.specs.Rows.{LinearRow, IsRow}
use Rattle.lin_rows.specs.Negating.{below_opposite}
use Rattle.lin_rows.specs.Combinations.{Contradicts}
use Rattle.farkas_check.specs.Nodes.{PlainNode, leaf, cut, cases}
use Rattle.farkas_check.specs.Refutes.{at_most, above}
use Rattle.triple_rows.specs.declared.predicates.PredNode.{PredNode}
use Rattle.triple_rows.specs.declared.predicates.PredNode.TheVariants.{And, Or}
use Rattle.nested_itp.specs.declared.nested_predicates.branches.Waiting.{Waiting}
use Rattle.nested_itp.specs.declared.nested_predicates.branches.Branches.{Branches}
use Rattle.nested_itp.specs.declared.nested_predicates.spots.Spot.{Spot}
use Rattle.nested_itp.specs.NestedPredicates.Stamps.{column_stamp}
use Rattle.nested_itp.specs.NestedPredicates.Positions.{Position, is_counted}
use Rattle.nested_itp.specs.NestedPredicates.Sums.{Branch, with_cut}
use Rattle.nested_itp.specs.NestedPredicates.Layouts.{HasStamps, leaf_node}

-- ---- branches

-- the first rows of a branch
abbrev pub upto : ℕ → Branch → Branch
upto n b = record { rows = take n b.rows; stamps = take n b.stamps }

-- with the row of a cut, if there is one
abbrev pub entered : Branch → Option (LinearRow × ℕ) → Branch
entered b None = b
entered b (Some s) = with_cut b s.1 s.0

-- The branches that wait, the next one in front: each has so many of these rows, and its own cut's row.
abbrev pub Wait : Branch → List Waiting → List Branch → Type 0
Wait b [] [] = Unit {0}
Wait b [] (x ∷ xs) = ⊥
Wait b (w ∷ ws) [] = ⊥
Wait b (w ∷ ws) (x ∷ xs) = (w.depth ≤ length b.rows) × (x ≡ entered (upto w.depth b) w.side) × Wait (upto w.depth b) ws xs

-- the branch at hand
abbrev pub branch_of : Branches → Branch
branch_of s = record { rows = s.rows.items; stamps = s.stamps.items }

-- some branch waits
abbrev pub HasNext : Branches → Type 0
HasNext s = 0 < length s.waiting.items

-- these branches wait
pub record Await (s : Branches) (branches : List Branch) : Type 0 where
  pub as_many : length s.stamps.items ≡ length s.rows.items
  pub waiting : Wait (branch_of s) (reverse s.waiting.items) branches

-- ---- nodes

-- of a cut on a column with this stamp, where the stamps above the first number and up to the second are counted
abbrev pub cut_node : ℕ → ℕ → ℕ → PredNode
cut_node own limit stamp = if nat_lt own stamp && nat_lt stamp (suc limit) then Or 2 else And 2

-- at each position from number n on
abbrev pub cut_nodes_from : ℕ → ℕ → List Spot → List PredNode
cut_nodes_from n stamp [] = []
cut_nodes_from n stamp (s ∷ ss) = cut_node s.own (suc (2 * n)) stamp ∷ cut_nodes_from (suc n) stamp ss

abbrev pub cut_node_at : ℕ → Position → PredNode
cut_node_at stamp q = if is_counted q stamp then Or 2 else And 2

-- what a node asks of the branch at hand
abbrev pub CanTake : PlainNode → Branch → Type 0
CanTake (leaf parts) b = Contradicts b.rows parts
CanTake (cut c k) b = Fits k × Fits (below_opposite k)
CanTake (cases n) b = ⊥

-- its nodes at the positions
abbrev pub row_of_node : List ℕ → List Position → PlainNode → Branch → List PredNode
row_of_node columns qs (leaf parts) b = map (leaf_node b parts) qs
row_of_node columns qs (cut c k) b = map (cut_node_at (column_stamp columns c)) qs
row_of_node columns qs (cases n) b = []

-- the branches below it, in front of the others
abbrev pub branches_after : List ℕ → PlainNode → Branch → List Branch → List Branch
branches_after columns (leaf parts) b rest = rest
branches_after columns (cut c k) b rest =
    with_cut b (column_stamp columns c) (at_most c k) ∷ with_cut b (column_stamp columns c) (above c k) ∷ rest
branches_after columns (cases n) b rest = rest

-- a branch's rows are rows, and have stamps
pub record IsGood (b : Branch) : Type 0 where
  pub rows : AllByRecursion IsRow b.rows
  pub stamps : HasStamps b

-- for each node of trees that refute these branches, which have no cases, the nodes at the positions
abbrev pub table_along : List ℕ → List Position → List PlainNode → List Branch → List (List PredNode)
table_along columns qs [] bs = []
table_along columns qs (n ∷ ns) [] = []
table_along columns qs (n ∷ ns) (b ∷ bs) = row_of_node columns qs n b ∷ table_along columns qs ns (branches_after columns n b bs)
