-- Refutations as they are written: `(leaf ROW:MULT ..)`, `(cut COL K REF REF)` and `(cases REF ..)`.
use Rattle.std.specs.Prelude.{ℕ, ◌^◌, Bool, true, false, ◌&&◌, nat_lt, List, [], ◌∷◌, ◌++◌, codes}
use Rattle.std.specs.List.{list_all, flat_map}
use Rattle.proof_form.specs.declared.numerals.Numeral.{Numeral}
use Rattle.proof_form.specs.declared.refutations.RNode.{RNode}
use Rattle.proof_form.specs.declared.refutations.RNode.TheVariants.{Leaf, Cut, Cases}
use Rattle.proof_form.specs.Numerals.{is_numeral, numeral_text}
use Rattle.proof_form.specs.Trees.{is_tree, tree_text}

-- a node as plain data: the parts of a leaf, the column and the number of a cut, or how many cases there are
pub data RefutationNode : Type 0 where
  leaf : List (Numeral × Numeral) → RefutationNode
  cut : Numeral → Numeral → RefutationNode
  cases : ℕ → RefutationNode

abbrev pub plain_refutation_node : RNode → RefutationNode
plain_refutation_node (Leaf refutation_parts) = leaf refutation_parts.items
plain_refutation_node (Cut column k) = cut column k
plain_refutation_node (Cases n) = cases n

-- how many trees stand behind a node
abbrev pub refutation_parts : RefutationNode → ℕ
refutation_parts (leaf ps) = 0
refutation_parts (cut column k) = 2
refutation_parts (cases n) = n

-- ` ROW:MULT`
abbrev pub part_text : Numeral × Numeral → List ℕ
part_text p = 32 ∷ (numeral_text p.0 ++ 58 ∷ numeral_text p.1)

-- what stands before the parts of a node
abbrev pub refutation_head : RefutationNode → List ℕ
refutation_head (leaf ps) = codes " (leaf" ++ flat_map part_text ps
refutation_head (cut column k) = codes " (cut " ++ (numeral_text column ++ 32 ∷ numeral_text k)
refutation_head (cases n) = codes " (cases"

abbrev pub is_part : Numeral × Numeral → Bool
is_part p = is_numeral p.0 && is_numeral p.1

abbrev pub is_some_list : {A : Type 0} → List A → Bool
is_some_list [] = false
is_some_list (x ∷ xs) = true

-- a leaf has a part or more, and a node has fewer than 2 ^ 32 trees behind it
abbrev pub is_refutation_node : RefutationNode → Bool
is_refutation_node (leaf ps) = is_some_list ps && list_all is_part ps
is_refutation_node (cut column k) = is_numeral column && is_numeral k
is_refutation_node (cases n) = nat_lt n (2 ^ 32)

-- the nodes are one whole tree
abbrev pub is_refutation : List RefutationNode → Bool
is_refutation ns = list_all is_refutation_node ns && is_tree refutation_parts ns

-- a space, and the tree
abbrev pub refutation_text : List RefutationNode → List ℕ
refutation_text ns = tree_text refutation_head refutation_parts ns
