-- Where a refutation stops.
use Rattle.std.specs.Prelude.{◌≡◌, ℕ, suc, ◌+◌, ℤ, Bool, not, ◌&&◌, List, [], ◌∷◌, map, length, Option, None, Some, slice_get, if◌then◌else◌}
use Rattle.farkas_check.specs.Nodes.{PlainNode}
use Rattle.farkas_check.specs.Trees as trees
use Rattle.farkas_check.specs.Trees.{leaf_tree, cut_tree}
use Rattle.nested_itp.specs.NestedPredicates.Sums.{Branch}
use Rattle.nested_itp.specs.NestedRefutations.Refutations.{side_of, Claim, TreeSpot, low_side, high_side, Asked, one_part, both_parts, some_part, taken_at, Stop, at_leaf, at_cut, at_group, nowhere}
use Rattle.nested_itp.specs.TripleWalks.Spots.{node_in, is_counted_in}
use Rattle.nested_itp.specs.TripleWalks.Claims.{asked_in}
use Rattle.nested_itp.specs.TripleWalks.Telling.{IsKnown}
use Rattle.nested_itp.specs.declared.triple_walks.trees.Tree as code_trees
use Rattle.nested_itp.specs.declared.triple_walks.claims.Claim as code
use Rattle.nested_itp.specs.declared.triple_walks.stops.Spot as place
use Rattle.nested_itp.specs.declared.triple_walks.stops.Taken as member
use Rattle.nested_itp.specs.declared.triple_walks.stops.Stop as found
use Rattle.nested_itp.specs.declared.triple_walks.stops.Stop.TheVariants.{Leaf, Cut, Group}
use Rattle.nested_itp.specs.declared.triple_walks.stops.Way.{Way}
use Rattle.nested_itp.specs.declared.triple_walks.stops.Way.TheVariants.{Part, Own, NoMember}

abbrev pub taken_of : member.Taken → ℕ × ℕ × Bool
taken_of t = (t.claim, t.node, t.second)

-- The place is the node's: so many rows stand on each branch before any cut.
pub record IsPlace (columns : List ℕ) (nodes : List PlainNode) (x : code_trees.Tree) (cs : List Claim) (ys : List code.Claim) (rows : ℕ) (s : TreeSpot) (p : place.Spot) : Type 0 where
  pub node : p.node ≡ s.node
  pub depth : length s.branch.rows ≡ rows + p.depth
  pub known : IsKnown columns nodes x cs ys s

-- a cut with these sides stands there
pub record IsCutThere (columns : List ℕ) (nodes : List PlainNode) (x : code_trees.Tree) (cs : List Claim) (ys : List code.Claim) (rows r col : ℕ) (k : ℤ) (low high : TreeSpot) (p : place.Spot) : Type 0 where
  pub branch : Branch
  pub first : trees.Tree
  pub second : trees.Tree
  pub low_is : low ≡ low_side columns p.node branch col k first
  pub high_is : high ≡ high_side columns p.node branch col k first second
  pub row : r ≡ length branch.rows
  pub here : IsPlace columns nodes x cs ys rows (record { node = p.node; branch = branch; tree = cut_tree col k first second }) p

-- it stops there
abbrev pub IsStop : List ℕ → List PlainNode → code_trees.Tree → List Claim → List code.Claim → ℕ → Stop → found.Stop → Type 0
IsStop columns nodes x cs ys rows (at_leaf n b parts) (Leaf m) = (m ≡ n) × IsKnown columns nodes x cs ys (record { node = n; branch = b; tree = leaf_tree parts })
IsStop columns nodes x cs ys rows (at_leaf n b parts) (Cut p) = ⊥
IsStop columns nodes x cs ys rows (at_leaf n b parts) (Group p) = ⊥
IsStop columns nodes x cs ys rows (at_cut r col k low high) (Leaf m) = ⊥
IsStop columns nodes x cs ys rows (at_cut r col k low high) (Cut p) = IsCutThere columns nodes x cs ys rows r col k low high p
IsStop columns nodes x cs ys rows (at_cut r col k low high) (Group p) = ⊥
IsStop columns nodes x cs ys rows (at_group s) (Leaf m) = ⊥
IsStop columns nodes x cs ys rows (at_group s) (Cut p) = ⊥
IsStop columns nodes x cs ys rows (at_group s) (Group p) = IsPlace columns nodes x cs ys rows s p
IsStop columns nodes x cs ys rows nowhere p = ⊥

-- ---- on the way there

-- for each claim whether the cut at a node is counted at its position
abbrev pub counted_by : code_trees.Tree → ℕ → List code.Claim → List Bool
counted_by x node ys = map (λ y. is_counted_in (node_in x node y.position)) ys

-- Of these, from number i on and the target last: the first source that counts the cut, if sources are followed; none where it is
-- first counted at the target; else the target.
abbrev pub teller : Bool → ℕ → List Bool → Option ℕ
teller returns i [] = None
teller returns i (b ∷ []) = if b then None else Some i
teller returns i (b ∷ d ∷ bs) = if not returns && b then Some i else teller returns (suc i) (d ∷ bs)

-- where it goes on, where this is asked and this member of the group is taken, if one is
abbrev pub way_asked : Asked → Option Bool → ℕ × ℕ → Way
way_asked (one_part side) member sides = Part (side_of side sides.0 sides.1)
way_asked both_parts member sides = Part sides.0
way_asked some_part None sides = NoMember
way_asked some_part (Some side) sides = Part (side_of side sides.0 sides.1)

-- by the claim that tells, if one does
abbrev pub way_by : code_trees.Tree → Option code.Claim → Option Bool → ℕ → ℕ × ℕ → Way
way_by x None member node sides = Own
way_by x (Some y) member node sides = way_asked (asked_in x y node sides) member sides

abbrev pub way_told : code_trees.Tree → List code.Claim → List (ℕ × ℕ × Bool) → Option ℕ → ℕ → ℕ × ℕ → Way
way_told x ys taken None node sides = Own
way_told x ys taken (Some i) node sides = way_by x (slice_get ys i) (taken_at i node taken) node sides
