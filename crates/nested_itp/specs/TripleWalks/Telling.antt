-- What is read of the word's tree, and of what a triple's system says, at each node below one.
use Rattle.std.specs.Prelude.{◌≡◌, ℕ, false, List, [], ◌∷◌, map, Some, slice_get}
use Rattle.farkas_check.specs.Nodes.{PlainNode}
use Rattle.farkas_check.specs.Trees.{Tree, leaf_tree, cut_tree, cases_tree}
use Rattle.triple_rows.specs.declared.predicates.PredNode.{PredNode}
use Rattle.triple_rows.specs.declared.predicates.PredNode.TheVariants.{Truth}
use Rattle.nested_itp.specs.NestedPredicates.Stamps.{column_stamp}
use Rattle.nested_itp.specs.NestedPredicates.Positions.{Position}
use Rattle.nested_itp.specs.NestedPredicates.Sums.{Branch}
use Rattle.nested_itp.specs.NestedPredicates.Layouts.{leaf_node}
use Rattle.nested_itp.specs.NestedPredicates.Tables.{cut_node_at}
use Rattle.nested_itp.specs.NestedRefutations.Refutations.{Claim, TreeSpot, truth_in, formula_at, Exposed}
use Rattle.nested_itp.specs.TripleWalks.Spots.{Everywhere, node_of, second_of, with_second, sides_in, node_in}
use Rattle.nested_itp.specs.TripleWalks.Claims.{left_of}
use Rattle.nested_itp.specs.declared.triple_walks.trees.Tree as code_trees
use Rattle.nested_itp.specs.declared.triple_walks.claims.Claim as code
use Rattle.nested_itp.specs.declared.triple_walks.exposing.Exposed as found

-- what stands for a node at a position
abbrev pub node_at : List ℕ → Position → Branch → Tree → PredNode
node_at columns q b (leaf_tree parts) = leaf_node b parts q
node_at columns q b (cut_tree c k t u) = cut_node_at (column_stamp columns c) q
node_at columns q b (cases_tree ts) = Truth false

-- what is read of a node for a claim
pub record IsNode (columns : List ℕ) (x : code_trees.Tree) (c : Claim) (y : code.Claim) (s : TreeSpot) : Type 0 where
  pub sides : sides_in x s.node ≡ with_second s.node (second_of s.node s.tree)
  pub node : node_in x s.node y.position ≡ Some (node_at columns c.position s.branch s.tree)
  pub left : left_of y s.node ≡ truth_in (formula_at columns c s.branch s.tree)

-- the claim is this one, at each node from one on
pub record Tells (columns : List ℕ) (x : code_trees.Tree) (s : TreeSpot) (c : Claim) (y : code.Claim) : Type 0 where
  pub is_denied : y.denied ≡ c.is_denied
  pub nodes : Everywhere (IsNode columns x c y) columns s.node s.branch s.tree

-- each claim is this one
abbrev pub AllTell : List ℕ → code_trees.Tree → TreeSpot → List Claim → List code.Claim → Type 0
AllTell columns x s [] [] = Unit {0}
AllTell columns x s [] (y ∷ ys) = ⊥
AllTell columns x s (c ∷ cs) [] = ⊥
AllTell columns x s (c ∷ cs) (y ∷ ys) = Tells columns x s c y × AllTell columns x s cs ys

-- the nodes and their parts are those of the word's refutation, and the claims these, at each node from one on
pub record IsKnown (columns : List ℕ) (nodes : List PlainNode) (x : code_trees.Tree) (cs : List Claim) (ys : List code.Claim) (s : TreeSpot) : Type 0 where
  pub spelled : Everywhere (λ z. slice_get nodes z.node ≡ Some (node_of z.tree)) columns s.node s.branch s.tree
  pub sides : Everywhere (λ z. sides_in x z.node ≡ with_second z.node (second_of z.node z.tree)) columns s.node s.branch s.tree
  pub claims : AllTell columns x s cs ys

-- the rows and groups that a claim gives, by the numbers of the leaves and cuts
pub record IsExposed (x : Exposed) (e : found.Exposed) : Type 0 where
  pub leaves : e.leaves.items ≡ x.leaves
  pub groups : e.groups.items ≡ map (λ z. z.node) x.groups
