-- Refutations as trees: the prefix list of one, and when one refutes a goal, by cases on the tree.
use Rattle.std.specs.Prelude.{◌≡◌, ℕ, suc, max, ℤ, List, [], ◌∷◌, ◌++◌}
use Rattle.math_facts.specs.Fits.{Fits}
use Rattle.lin_rows.specs.Negating.{below_opposite}
use Rattle.lin_rows.specs.Combinations.{Contradicts}
use Rattle.farkas_check.specs.Nodes.{PlainNode, leaf, cut, cases}
use Rattle.farkas_check.specs.Refutes.{Goal, at_most, above, with_row, CasesRefute}

-- a leaf with its parts, a cut with its two sides, or a tree for each case
mutual
  pub data Tree : Type 0 where
    leaf_tree : List (ℕ × ℤ) → Tree
    cut_tree : ℕ → ℤ → Tree → Tree → Tree
    cases_tree : Trees → Tree

  pub data Trees : Type 0 where
    no_tree : Trees
    one_more : Tree → Trees → Trees

-- how many trees there are
abbrev pub tree_count : Trees → ℕ
tree_count no_tree = 0
tree_count (one_more t ts) = suc (tree_count ts)

-- how many cuts lie on the branch of a tree that has most
abbrev mutual
  pub cuts_on_branch : Tree → ℕ
  cuts_on_branch (leaf_tree parts) = 0
  cuts_on_branch (cut_tree c k t u) = suc (max (cuts_on_branch t) (cuts_on_branch u))
  cuts_on_branch (cases_tree ts) = most_cuts ts

  pub most_cuts : Trees → ℕ
  most_cuts no_tree = 0
  most_cuts (one_more t ts) = max (cuts_on_branch t) (most_cuts ts)

-- each node before the trees below it, in order
abbrev mutual
  pub prefix_of : Tree → List PlainNode
  prefix_of (leaf_tree parts) = leaf parts ∷ []
  prefix_of (cut_tree c k t u) = cut c k ∷ (prefix_of t ++ prefix_of u)
  prefix_of (cases_tree ts) = cases (tree_count ts) ∷ prefixes_of ts

  pub prefixes_of : Trees → List PlainNode
  prefixes_of no_tree = []
  prefixes_of (one_more t ts) = prefix_of t ++ prefixes_of ts

-- A leaf contradicts the rows. A cut is at a number for which `k` and `-k-1` fit, and each side refutes the goal with its row.
-- Cases take the first group away, and refute the goal with each of its members.
abbrev mutual
  pub TreeRefutes : Tree → Goal → Type 0
  TreeRefutes (leaf_tree parts) g = Contradicts g.rows parts
  TreeRefutes (cut_tree c k t u) g =
      Fits k × Fits (below_opposite k) × TreeRefutes t (with_row g (at_most c k)) × TreeRefutes u (with_row g (above c k))
  TreeRefutes (cases_tree ts) g = CasesRefute (λ goals. EachRefutes ts goals) (tree_count ts) g.rows g.groups

  pub EachRefutes : Trees → List Goal → Type 0
  EachRefutes no_tree [] = Unit {0}
  EachRefutes no_tree (g ∷ gs) = ⊥
  EachRefutes (one_more t ts) [] = ⊥
  EachRefutes (one_more t ts) (g ∷ gs) = TreeRefutes t g × EachRefutes ts gs

-- the list is the prefix list of a tree
abbrev pub IsPrefixList : List PlainNode → Type 0
IsPrefixList ns = (t : Tree) × (prefix_of t ≡ ns)
