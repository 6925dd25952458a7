-- Where the labels of statements lead, by the numbers of places alone.
use Rattle.std.specs.Prelude.{ℕ, ◌+◌, List, [], ◌∷◌, ◌++◌, length}
use Rattle.typed_tree.specs.TypedTree.{TypedStatement, If, While, Label, TypedBlock, Empty, Then, TypedProcedure}
use Rattle.typed_tree.specs.TypingRules.Counts.{points, block_points}

-- The first place of what is left of a block, or else the one behind it. A label has no place.
abbrev pub place_of_rest : TypedBlock → ℕ → ℕ → ℕ
place_of_rest Empty at after = after
place_of_rest (Then (Label n) b) at after = place_of_rest b at after
place_of_rest (Then s b) at after = at

abbrev mutual
  -- of each label of a statement, in the order of the text, with the statement's first place and the one behind it
  pub places_in : List TypedProcedure → TypedStatement → ℕ → ℕ → List ℕ
  places_in procs (If span g x y) at next = places_of procs x (at + 1) next ++ places_of procs y (at + 1 + block_points procs x) next
  places_in procs (While span g is x) at next = places_of procs x (at + length is + 1) at
  places_in procs (Label n) at next = next ∷ []
  places_in procs s at next = []

  -- of each label of a block
  pub places_of : List TypedProcedure → TypedBlock → ℕ → ℕ → List ℕ
  places_of procs Empty at after = []
  places_of procs (Then s b) at after =
      places_in procs s at (place_of_rest b (at + points procs s) after) ++ places_of procs b (at + points procs s) after
