-- Trees that are read from the end of a prefix list and simplified on the way.
use Rattle.std.specs.Prelude.{◌≡◌, ◌≤◌, Bool, true, false, not, ◌||◌, ◌&&◌, List, [], ◌∷◌, ◌++◌, map, length, reverse, take, drop}
use Rattle.triple_rows.specs.declared.predicates.PredNode.{PredNode}
use Rattle.triple_rows.specs.declared.predicates.PredNode.TheVariants.{Truth, Atom, And, Or}
use Rattle.triple_rows.specs.Predicates.{Formula, truth, atom, and_of, or_of, IsTruth, prefix_of, bundled, formulas}
use Rattle.nested_itp.specs.declared.nested_predicates.joins.Part.{Part}
use Rattle.nested_itp.specs.declared.nested_predicates.joins.Part.TheVariants as parts
use Rattle.nested_itp.specs.declared.nested_predicates.joins.Simplifier.{Simplifier}
use Rattle.nested_itp.specs.NestedPredicates.Joins.{and_joined, or_joined, simplified}

-- a node takes two trees of those behind it, or none
abbrev pub CanJoin : PredNode → List Formula → Type 0
CanJoin (Truth b) fs = Unit {0}
CanJoin (Atom r) fs = Unit {0}
CanJoin (And k) fs = (k ≡ 2) × (2 ≤ length fs)
CanJoin (Or k) fs = (k ≡ 2) × (2 ≤ length fs)

-- each `and` and `or` has two parts
abbrev pub AreJoined : List PredNode → Type 0
AreJoined [] = Unit {0}
AreJoined (n ∷ ns) = CanJoin n (formulas ns) × AreJoined ns

-- the list spells one tree, each `and` and `or` of which has two parts
pub record SpellsJoined (nodes : List PredNode) : Type 0 where
  pub joined : AreJoined nodes
  pub one : length (formulas nodes) ≡ 1

-- the trees, with a node in front that takes its parts from them
abbrev pub with_node : PredNode → List Formula → List Formula
with_node (Truth b) fs = truth b ∷ fs
with_node (Atom r) fs = atom r ∷ fs
with_node (And k) fs = and_of (bundled (take k fs)) ∷ drop k fs
with_node (Or k) fs = or_of (bundled (take k fs)) ∷ drop k fs

-- These nodes are those of the trees, one after another, but for truth values, which stand in the parts alone. The other
-- parts tell how many nodes stand behind their tree.
abbrev pub Spell : List PredNode → List Part → List Formula → Type 0
Spell nodes [] [] = nodes ≡ []
Spell nodes [] (f ∷ fs) = ⊥
Spell nodes (p ∷ ps) [] = ⊥
Spell nodes (parts.Truth b ∷ ps) (f ∷ fs) = (f ≡ truth b) × Spell nodes ps fs
Spell nodes (parts.Nodes from ∷ ps) (f ∷ fs) =
    (IsTruth f → ⊥) × ((rest : List PredNode) × (nodes ≡ prefix_of f ++ rest) × (length rest ≡ from) × Spell rest ps fs)

-- the trees that were read, simplified
abbrev pub HasRead : Simplifier → List Formula → Type 0
HasRead s fs = Spell (reverse s.nodes.items) (reverse s.parts.items) (map simplified fs)

-- an `and` or `or` finds two parts
abbrev pub FindsParts : PredNode → Simplifier → Type 0
FindsParts (Truth b) s = Unit {0}
FindsParts (Atom r) s = Unit {0}
FindsParts (And k) s = 2 ≤ length s.parts.items
FindsParts (Or k) s = 2 ≤ length s.parts.items

-- whatever was read, the node is read in front of it
abbrev pub Reads : PredNode → Simplifier → Simplifier → Type 0
Reads n old new = (fs : List Formula) → HasRead old fs → CanJoin n fs → HasRead new (with_node n fs)

-- two trees joined by `or`, or by `and`
abbrev pub joined_by : Bool → Formula → Formula → Formula
joined_by true a b = or_joined a b
joined_by false a b = and_joined a b

-- the two trees in front become one
abbrev pub JoinsTwo : Bool → Simplifier → Simplifier → Type 0
JoinsTwo by_or old new = (a b : Formula) (fs : List Formula) → Spell (reverse old.nodes.items) (reverse old.parts.items) (a ∷ b ∷ fs) →
    Spell (reverse new.nodes.items) (reverse new.parts.items) (joined_by by_or a b ∷ fs)

-- the part stands for both parts joined
pub record JoinsParts (by_or : Bool) (first second part : Part) (old new : Simplifier) : Type 0 where
  pub parts : new.parts.items ≡ old.parts.items
  pub spelled : (ps : List Part) (a b : Formula) (fs : List Formula) → Spell (reverse old.nodes.items) (first ∷ second ∷ ps) (a ∷ b ∷ fs) →
      Spell (reverse new.nodes.items) (part ∷ ps) (joined_by by_or a b ∷ fs)

-- one tree is left
abbrev pub IsTree : Simplifier → Type 0
IsTree s = length s.parts.items ≡ 1

-- both truth values are the same; so a truth value that is that of `or`, or of `and`, settles the join whatever the other part is
abbrev pub is_same : Bool → Bool → Bool
is_same true value = value
is_same false value = not value

-- two truth values joined
abbrev pub decided : Bool → Bool → Bool → Bool
decided true a b = a || b
decided false a b = a && b

-- the node that joins two trees
abbrev pub join_node : Bool → PredNode
join_node true = Or 2
join_node false = And 2
