-- Trees as prefix lists: each node, and then the trees that are its parts, in order. A node knows how many parts it has.
use Rattle.std.specs.Prelude.{ℕ, suc, ◌-◌, Bool, true, ◌&&◌, nat_eq, nat_le, List, [], ◌∷◌, ◌++◌, take, drop}
use Rattle.std.specs.List.{concat}

-- how many trees the list is
abbrev pub tree_count : {X : Type 0} → (X → ℕ) → List X → ℕ
tree_count parts [] = 0
tree_count parts (n ∷ ns) = suc (tree_count parts ns - parts n)

-- behind each node stand as many trees as it has parts
abbrev pub have_parts : {X : Type 0} → (X → ℕ) → List X → Bool
have_parts parts [] = true
have_parts parts (n ∷ ns) = have_parts parts ns && nat_le (parts n) (tree_count parts ns)

-- the list is one whole tree
abbrev pub is_tree : {X : Type 0} → (X → ℕ) → List X → Bool
is_tree parts ns = have_parts parts ns && nat_eq (tree_count parts ns) 1

-- a node in front of trees: what the node says, its parts, and a closing parenthesis
abbrev pub with_node : {X : Type 0} → (X → List ℕ) → (X → ℕ) → X → List (List ℕ) → List (List ℕ)
with_node head parts n ts = (head n ++ (concat (take (parts n) ts) ++ 41 ∷ [])) ∷ drop (parts n) ts

-- the text of each tree of the list
abbrev pub texts : {X : Type 0} → (X → List ℕ) → (X → ℕ) → List X → List (List ℕ)
texts head parts [] = []
texts head parts (n ∷ ns) = with_node head parts n (texts head parts ns)

-- the text of the tree that the list is
abbrev pub tree_text : {X : Type 0} → (X → List ℕ) → (X → ℕ) → List X → List ℕ
tree_text head parts ns = concat (texts head parts ns)
