-- What is read off a word before its leaves are summed.
use Rattle.std.specs.Prelude.{◌≡◌, ℕ, ℤ, ◌<◌, ◌≤◌, ◌^◌, List, map, length}
use Rattle.std.specs.List.{AllByRecursion}
use Rattle.nwa_base.specs.declared.letters.Letter.{Letter}
use Rattle.letter_acts.specs.Invariant.{Graph, alphabet_of}
use Rattle.nested_itp.specs.declared.nested_predicates.layout.Layout.{Layout}
use Rattle.nested_itp.specs.NestedPredicates.Stamps.{stamps_of}
use Rattle.triple_rows.specs.declared.predicates.PredNode.{PredNode}
use Rattle.nested_itp.specs.NestedPredicates.Positions.{Position, positions_of}
use Rattle.nested_itp.specs.NestedPredicates.Sums.{Branch, sum_at}
use Rattle.nested_itp.specs.NestedPredicates.Bases.{node_of}
use Rattle.nested_itp.specs.NestedPredicates.Walking.{AreLetters, return_tests}
use Rattle.nested_itp.specs.NestedPredicates.Spots.{spot_at}

-- it is that of this word, whose letters are in the alphabet
pub record IsLayout (g : Graph) (w : List Letter) (l : Layout) : Type 0 where
  pub letters : AreLetters (alphabet_of g) w
  pub count : length w < 2 ^ 32
  pub rows : l.stamps.rows.items ≡ (stamps_of g w).rows
  pub columns : l.stamps.columns.items ≡ (stamps_of g w).columns
  pub returned : l.returned.items ≡ return_tests w
  pub spots : l.spots.items ≡ map spot_at (positions_of g w)

-- each row of the branch has a stamp, that of a letter
pub record HasStamps (b : Branch) : Type 0 where
  pub as_many : length b.stamps ≡ length b.rows
  pub from_two : AllByRecursion (λ s. 2 ≤ s) b.stamps

-- the node of a leaf's sum at a position
abbrev pub leaf_node : Branch → List (ℕ × ℤ) → Position → PredNode
leaf_node b parts q = node_of (sum_at b parts q)
