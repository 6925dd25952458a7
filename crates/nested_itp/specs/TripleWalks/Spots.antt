-- The nodes of the tree of a word's refutation by their numbers in its prefix list.
use Rattle.std.specs.Prelude.{◌≡◌, ℕ, suc, ◌+◌, Bool, true, false, List, [], ◌∷◌, ◌++◌, map, drop, length, Option, None, Some, unwrap_or, slice_get}
use Rattle.std.specs.Global.{Vec}
use Rattle.farkas_check.specs.Nodes.{PlainNode, leaf, cut, cases}
use Rattle.farkas_check.specs.Trees.{Tree, leaf_tree, cut_tree, cases_tree, tree_count, prefix_of}
use Rattle.triple_rows.specs.declared.predicates.PredNode.{PredNode}
use Rattle.triple_rows.specs.declared.predicates.PredNode.TheVariants.{Truth, Atom, And, Or}
use Rattle.nested_itp.specs.NestedPredicates.Positions.{Position}
use Rattle.nested_itp.specs.NestedPredicates.Sums.{Branch}
use Rattle.nested_itp.specs.NestedPredicates.Tables.{row_of_node}
use Rattle.nested_itp.specs.NestedRefutations.Refutations.{TreeSpot, low_side, high_side}
use Rattle.nested_itp.specs.declared.triple_walks.trees.Tree as code

-- ---- the tree

-- the tree has no cases
abbrev pub HasNoCases : Tree → Type 0
HasNoCases (leaf_tree parts) = Unit {0}
HasNoCases (cut_tree c k t u) = HasNoCases t × HasNoCases u
HasNoCases (cases_tree ts) = ⊥

-- a fact holds of each node of the tree that stands at a number, and there are no cases
abbrev pub Everywhere : (TreeSpot → Type 0) → List ℕ → ℕ → Branch → Tree → Type 0
Everywhere P columns n b (leaf_tree parts) = P (record { node = n; branch = b; tree = leaf_tree parts })
Everywhere P columns n b (cut_tree c k t u) =
    let low = low_side columns n b c k t in
    let high = high_side columns n b c k t u in
    P (record { node = n; branch = b; tree = cut_tree c k t u }) × Everywhere P columns low.node low.branch t × Everywhere P columns high.node high.branch u
Everywhere P columns n b (cases_tree ts) = ⊥

-- what there is of each node, in the order of the prefix list
abbrev pub listed : {X : Type 0} → (TreeSpot → X) → List ℕ → ℕ → Branch → Tree → List X
listed f columns n b (leaf_tree parts) = f (record { node = n; branch = b; tree = leaf_tree parts }) ∷ []
listed f columns n b (cut_tree c k t u) =
    let low = low_side columns n b c k t in
    let high = high_side columns n b c k t u in
    f (record { node = n; branch = b; tree = cut_tree c k t u }) ∷ (listed f columns low.node low.branch t ++ listed f columns high.node high.branch u)
listed f columns n b (cases_tree ts) = []

-- the first node of the prefix list
abbrev pub node_of : Tree → PlainNode
node_of (leaf_tree parts) = leaf parts
node_of (cut_tree c k t u) = cut c k
node_of (cases_tree ts) = cases (tree_count ts)

-- where the second part begins of a cut that stands at a number
abbrev pub second_of : ℕ → Tree → Option ℕ
second_of n (leaf_tree parts) = None
second_of n (cut_tree c k t u) = Some (suc n + length (prefix_of t))
second_of n (cases_tree ts) = None

-- where the second part of each node begins, of a tree that stands at a number
abbrev pub seconds_of : ℕ → Tree → List (Option ℕ)
seconds_of n (leaf_tree parts) = None ∷ []
seconds_of n (cut_tree c k t u) = Some (suc n + length (prefix_of t)) ∷ (seconds_of (suc n) t ++ seconds_of (suc n + length (prefix_of t)) u)
seconds_of n (cases_tree ts) = []

-- ---- what is read of it

-- the nodes of the word's refutation, where the second part of each begins, and what stands for each at the positions
pub record IsTree (columns : List ℕ) (qs : List Position) (b : Branch) (t : Tree) (nodes : List PlainNode) (x : code.Tree) : Type 0 where
  pub uncased : HasNoCases t
  pub spelled : nodes ≡ prefix_of t
  pub seconds : x.seconds.items ≡ seconds_of 0 t
  pub rows : map (λ r. r.items) x.table.items ≡ listed (λ s. row_of_node columns qs (node_of s.tree) s.branch) columns 0 b t

-- the node of a row at a position
abbrev pub in_row : Option (Vec PredNode) → ℕ → Option PredNode
in_row None position = None
in_row (Some row) position = slice_get row.items position

-- what stands for a node at a position
abbrev pub node_in : code.Tree → ℕ → ℕ → Option PredNode
node_in x node position = in_row (slice_get x.table.items node) position

abbrev pub is_or : PredNode → Bool
is_or (Truth v) = false
is_or (Atom r) = false
is_or (And k) = false
is_or (Or k) = true

-- a cut that is counted
abbrev pub is_counted_in : Option PredNode → Bool
is_counted_in None = false
is_counted_in (Some n) = is_or n

-- the parts of a node, if its second part begins at a number
abbrev pub with_second : ℕ → Option ℕ → Option (ℕ × ℕ)
with_second node None = None
with_second node (Some second) = Some (suc node, second)

abbrev pub sides_in : code.Tree → ℕ → Option (ℕ × ℕ)
sides_in x node = with_second node (unwrap_or (slice_get x.seconds.items node) None)

-- ---- trees that are read from the end of a prefix list

-- Where the second of the trees begins that stand behind a cut, where they begin at these numbers; and what stands behind a
-- node and its parts.
abbrev pub second_in : PlainNode → List ℕ → Option ℕ
second_in (leaf parts) behind = None
second_in (cut c k) behind = slice_get behind 1
second_in (cases count) behind = None

abbrev pub behind_parts : {X : Type 0} → PlainNode → List X → List X
behind_parts (leaf parts) behind = behind
behind_parts (cut c k) behind = drop 2 behind
behind_parts (cases count) behind = behind
