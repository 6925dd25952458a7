-- Lists of nodes that spell predicates one behind the other.
use mathlib.Core.Bool.{beq}
use Rattle.std.specs.Prelude.{◌≡◌, ℕ, zero, suc, ◌+◌, Bool, true, false, ◌&&◌, nat_eq, List, [], ◌∷◌}
use Rattle.std.specs.Ordering.{int_eq}
use lib.Pointwise.{pointwise}
use Rattle.lin_rows.specs.Rows.{LinearRow}
use Rattle.letter_acts.specs.LetterTable.Letters.{same_term}
use Rattle.triple_rows.specs.declared.predicates.PredNode.{PredNode}
use Rattle.triple_rows.specs.declared.predicates.PredNode.TheVariants.{Truth, Atom, And, Or}
use Rattle.triple_rows.specs.Predicates.{Formula, prefix_of}

-- how many predicates stand behind a node as its parts
abbrev pub part_count : PredNode → ℕ
part_count (Truth b) = 0
part_count (Atom r) = 0
part_count (And k) = k
part_count (Or k) = k

-- how many nodes the first k predicates of a list have
unfoldable pub tree_length : ℕ → List PredNode → ℕ
tree_length zero ns = 0
tree_length (suc k) [] = 0
tree_length (suc k) (n ∷ ns) = suc (tree_length (part_count n + k) ns)

-- the list spells k predicates, with nothing behind them
unfoldable pub spells : ℕ → List PredNode → Bool
spells zero [] = true
spells zero (n ∷ ns) = false
spells (suc k) [] = false
spells (suc k) (n ∷ ns) = spells (part_count n + k) ns

-- the list spells some predicates
abbrev pub SpellsSome : List PredNode → Type 0
SpellsSome ns = (k : ℕ) × (spells k ns ≡ true)

abbrev pub same_terms : LinearRow → LinearRow → Bool
same_terms r s = pointwise same_term r.terms s.terms

abbrev pub same_node : PredNode → PredNode → Bool
same_node (Truth a) (Truth b) = beq a b
same_node (Atom r) (Atom s) = same_terms r s && int_eq r.bound s.bound
same_node (And k) (And m) = nat_eq k m
same_node (Or k) (Or m) = nat_eq k m
same_node a b = false

-- two predicates are spelled by equal nodes
abbrev pub same_formula : Formula → Formula → Bool
same_formula f g = pointwise same_node (prefix_of f) (prefix_of g)
