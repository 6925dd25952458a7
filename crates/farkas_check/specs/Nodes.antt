-- The nodes of a refutation, and which lists of them are whole trees.
use Rattle.std.specs.Prelude.{ℕ, zero, suc, ◌+◌, ℤ, Bool, false, List, [], ◌∷◌, map, nat_eq}
use Rattle.farkas_check.specs.declared.refutations.Node.{Node}
use Rattle.farkas_check.specs.declared.refutations.Node.TheVariants.{Leaf, Cut, Cases}

-- a node as plain data: the parts of a leaf, the column and the number of a cut, or how many cases there are
pub data PlainNode : Type 0 where
  leaf : List (ℕ × ℤ) → PlainNode
  cut : ℕ → ℤ → PlainNode
  cases : ℕ → PlainNode

abbrev pub plain : Node → PlainNode
plain (Leaf parts) = leaf parts.items
plain (Cut c k) = cut c k
plain (Cases n) = cases n

-- nodes as plain data
abbrev pub plain_nodes : List Node → List PlainNode
plain_nodes nodes = map plain nodes

-- how many trees stand below a node
abbrev pub branches : PlainNode → ℕ
branches (leaf parts) = 0
branches (cut c k) = 2
branches (cases n) = n

-- the list is the prefix lists of that many trees, one after another: each node, and then the trees below it, in order
abbrev pub are_trees : ℕ → List PlainNode → Bool
are_trees count [] = nat_eq count 0
are_trees zero (n ∷ ns) = false
are_trees (suc rest) (n ∷ ns) = are_trees (branches n + rest) ns

-- the list is the prefix list of one tree
abbrev pub is_tree : List PlainNode → Bool
is_tree ns = are_trees 1 ns
