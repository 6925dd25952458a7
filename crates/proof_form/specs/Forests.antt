-- Trees by recursion: a node with the trees that are its parts.
use Rattle.std.specs.Prelude.{◌≡◌, ℕ, suc, List, [], ◌∷◌, ◌++◌}

mutual
  pub data Tree (X : Type 0) : Type 0 where
    tree : X → Forest X → Tree X

  pub data Forest (X : Type 0) : Type 0 where
    no_tree : Forest X
    one_more : Tree X → Forest X → Forest X

-- how many trees there are
abbrev pub size : {X : Type 0} → Forest X → ℕ
size no_tree = 0
size (one_more t ts) = suc (size ts)

-- each node has as many trees as it says
abbrev mutual
  pub HasParts : {X : Type 0} → (X → ℕ) → Tree X → Type 0
  HasParts parts (tree n ts) = (parts n ≡ size ts) × HaveParts parts ts

  pub HaveParts : {X : Type 0} → (X → ℕ) → Forest X → Type 0
  HaveParts parts no_tree = Unit {0}
  HaveParts parts (one_more t ts) = HasParts parts t × HaveParts parts ts

-- each node before its trees, in order
abbrev mutual
  pub prefix_of : {X : Type 0} → Tree X → List X
  prefix_of (tree n ts) = n ∷ prefixes_of ts

  pub prefixes_of : {X : Type 0} → Forest X → List X
  prefixes_of no_tree = []
  prefixes_of (one_more t ts) = prefix_of t ++ prefixes_of ts

-- what the node says, its trees, and a closing parenthesis
abbrev mutual
  pub text_of : {X : Type 0} → (X → List ℕ) → Tree X → List ℕ
  text_of head (tree n ts) = head n ++ (texts_of head ts ++ 41 ∷ [])

  pub texts_of : {X : Type 0} → (X → List ℕ) → Forest X → List ℕ
  texts_of head no_tree = []
  texts_of head (one_more t ts) = text_of head t ++ texts_of head ts
