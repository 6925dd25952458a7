-- What a claim gives at a node, and at which of its parts it gives more, by what is read of the node.
use Rattle.std.specs.Prelude.{ℕ, Bool, List, [], ◌∷◌, ◌++◌, map, Option, None, Some}
use Rattle.nested_itp.specs.NestedRefutations.Refutations.{side_of, Asked, one_part, both_parts, some_part, Exposed}
use Rattle.nested_itp.specs.TripleWalks.Spots.{sides_in}
use Rattle.nested_itp.specs.TripleWalks.Claims.{left_of, asked_in}
use Rattle.nested_itp.specs.declared.triple_walks.trees.Tree as code_trees
use Rattle.nested_itp.specs.declared.triple_walks.claims.Claim as code_claims
use Rattle.nested_itp.specs.declared.triple_walks.exposing.Exposed as code

-- the rows, by the numbers of their leaves, and the groups, by those of their cuts
pub record Found : Type 0 where
  pub leaves : List ℕ
  pub groups : List ℕ

abbrev pub found_of : code.Exposed → Found
found_of e = record { leaves = e.leaves.items; groups = e.groups.items }

abbrev pub numbers_of : Exposed → Found
numbers_of e = record { leaves = e.leaves; groups = map (λ s. s.node) e.groups }

abbrev pub none_found : Found
none_found = record { leaves = []; groups = [] }

abbrev pub with_found : Found → Found → Found
with_found e f = record { leaves = e.leaves ++ f.leaves; groups = e.groups ++ f.groups }

-- ---- at a cut

abbrev pub found_at_cut : Asked → ℕ → Found
found_at_cut (one_part side) node = none_found
found_at_cut both_parts node = none_found
found_at_cut some_part node = record { leaves = []; groups = node ∷ [] }

-- the parts that are asked
abbrev pub parts_at_cut : Asked → ℕ × ℕ → List ℕ
parts_at_cut (one_part side) sides = side_of side sides.0 sides.1 ∷ []
parts_at_cut both_parts sides = sides.0 ∷ sides.1 ∷ []
parts_at_cut some_part sides = []

-- ---- at a node

-- where something is left of the predicate
abbrev pub found_open : Option (ℕ × ℕ) → (ℕ × ℕ → Asked) → ℕ → Found
found_open None asked node = record { leaves = node ∷ []; groups = [] }
found_open (Some sides) asked node = found_at_cut (asked sides) node

abbrev pub parts_open : Option (ℕ × ℕ) → (ℕ × ℕ → Asked) → List ℕ
parts_open None asked = []
parts_open (Some sides) asked = parts_at_cut (asked sides) sides

-- nothing where a truth value is
abbrev pub found_unless : Option Bool → Found → Found
found_unless None f = f
found_unless (Some v) f = none_found

abbrev pub parts_unless : Option Bool → List ℕ → List ℕ
parts_unless None parts = parts
parts_unless (Some v) parts = []

abbrev pub found_at : code_trees.Tree → code_claims.Claim → ℕ → Found
found_at x y node = found_unless (left_of y node) (found_open (sides_in x node) (asked_in x y node) node)

abbrev pub parts_at : code_trees.Tree → code_claims.Claim → ℕ → List ℕ
parts_at x y node = parts_unless (left_of y node) (parts_open (sides_in x node) (asked_in x y node))
