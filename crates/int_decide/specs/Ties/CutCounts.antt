-- How many cuts the branches of trees have, counted along their prefix lists.
use Rattle.std.specs.Prelude.{ℕ, zero, suc, Bool, true, false, List, [], ◌∷◌, ◌++◌, Option, None, Some, replicate}
use Rattle.farkas_check.specs.Nodes.{PlainNode, leaf, cut, cases}

-- both sides of a cut have one cut less
abbrev pub after_cut : ℕ → List ℕ → Option (List ℕ)
after_cut zero rest = None
after_cut (suc l) rest = Some (l ∷ l ∷ rest)

-- The cuts that are left for the trees to come, after a node of the first of them; none where no tree is to come, or no cut is left.
abbrev pub after_node : List ℕ → PlainNode → Option (List ℕ)
after_node [] n = None
after_node (l ∷ rest) (leaf parts) = Some rest
after_node (l ∷ rest) (cut c k) = after_cut l rest
after_node (l ∷ rest) (cases n) = Some (replicate n l ++ rest)

abbrev pub is_no_tree : List ℕ → Bool
is_no_tree [] = true
is_no_tree (l ∷ rest) = false

abbrev pub goes_on : (List ℕ → Bool) → Option (List ℕ) → Bool
goes_on holds None = false
goes_on holds (Some rest) = holds rest

-- the nodes are the prefix lists of a tree for each number, with that many cuts on a branch at most
abbrev pub have_few_cuts : List ℕ → List PlainNode → Bool
have_few_cuts lefts [] = is_no_tree lefts
have_few_cuts lefts (n ∷ ns) = goes_on (λ rest. have_few_cuts rest ns) (after_node lefts n)
