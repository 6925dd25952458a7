-- Predicates as they are written: `(le BOUND COEF COL ..)`, `(and P P ..)` and `(or P P ..)`.
use Rattle.std.specs.Prelude.{ℕ, suc, ◌^◌, max, Bool, true, ◌&&◌, not, nat_le, nat_lt, List, [], ◌∷◌, ◌++◌, take, drop, codes}
use Rattle.std.specs.List.{list_all, flat_map}
use Rattle.proof_form.specs.declared.numerals.Numeral.{Numeral}
use Rattle.proof_form.specs.declared.predicates.PNode.{PNode}
use Rattle.proof_form.specs.declared.predicates.PNode.TheVariants.{Atom, And, Or}
use Rattle.proof_form.specs.Names.{is_column}
use Rattle.proof_form.specs.Numerals.{is_numeral, is_zero_text, numeral_text}
use Rattle.proof_form.specs.Trees.{is_tree, tree_text}
use Rattle.proof_form.specs.Refutations.{is_some_list}

-- a node as plain data: the bound and the terms of an atom, or how many parts an `and` or `or` has
pub data PredicateNode : Type 0 where
  atom : Numeral → List (Numeral × List ℕ) → PredicateNode
  and_of : ℕ → PredicateNode
  or_of : ℕ → PredicateNode

abbrev pub plain_predicate_node : PNode → PredicateNode
plain_predicate_node (Atom bound terms) = atom bound terms.items
plain_predicate_node (And n) = and_of n
plain_predicate_node (Or n) = or_of n

-- how many predicates stand behind a node
abbrev pub parts : PredicateNode → ℕ
parts (atom bound terms) = 0
parts (and_of n) = n
parts (or_of n) = n

-- ` COEF COL`
abbrev pub term_text : Numeral × List ℕ → List ℕ
term_text t = 32 ∷ (numeral_text t.0 ++ 32 ∷ t.1)

-- what stands before the parts of a node
abbrev pub head : PredicateNode → List ℕ
head (atom bound terms) = codes " (le " ++ (numeral_text bound ++ flat_map term_text terms)
head (and_of n) = codes " (and"
head (or_of n) = codes " (or"

-- no coefficient is 0
abbrev pub is_term : Numeral × List ℕ → Bool
is_term t = is_numeral t.0 && (not (is_zero_text t.0.digits) && is_column t.1)

-- two parts or more, and fewer than 2 ^ 32
abbrev pub is_count : ℕ → Bool
is_count n = nat_le 2 n && nat_lt n (2 ^ 32)

-- an atom has a term or more
abbrev pub is_predicate_node : PredicateNode → Bool
is_predicate_node (atom bound terms) = is_numeral bound && (is_some_list terms && list_all is_term terms)
is_predicate_node (and_of n) = is_count n
is_predicate_node (or_of n) = is_count n

abbrev pub highest : List ℕ → ℕ
highest [] = 0
highest (h ∷ hs) = max h (highest hs)

-- how deep `and` and `or` nest in a node whose parts have these heights
abbrev pub height_of : PredicateNode → List ℕ → ℕ
height_of (atom bound terms) hs = 0
height_of (and_of n) hs = suc (highest hs)
height_of (or_of n) hs = suc (highest hs)

-- a node in front of trees of these heights
abbrev pub with_height : PredicateNode → List ℕ → List ℕ
with_height n hs = height_of n (take (parts n) hs) ∷ drop (parts n) hs

-- the height of each tree of the list
abbrev pub heights : List PredicateNode → List ℕ
heights [] = []
heights (n ∷ ns) = with_height n (heights ns)

-- `and` and `or` nest at most 200 deep in each node
abbrev pub are_low : List PredicateNode → Bool
are_low [] = true
are_low (n ∷ ns) = are_low ns && nat_le (height_of n (take (parts n) (heights ns))) 200

-- the nodes are one whole tree
abbrev pub is_predicate : List PredicateNode → Bool
is_predicate ns = list_all is_predicate_node ns && (is_tree parts ns && are_low ns)

-- a space, and the tree
abbrev pub predicate_text : List PredicateNode → List ℕ
predicate_text ns = tree_text head parts ns
