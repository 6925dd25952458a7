-- Wherever the refutation of a triple stops at a group of which no member was taken, a group waits to be opened.
use Rattle.std.specs.Prelude.{Bool, List, [], ◌∷◌, Option, None, Some}
use Rattle.std.specs.List.{AllByRecursion}
use Rattle.farkas_check.specs.Trees.{Tree}
use Rattle.nwa_base.specs.declared.letters.Letter.{Letter}
use Rattle.letter_acts.specs.Invariant.{Graph}
use Rattle.nested_itp.specs.NestedPredicates.Sums.{root_of}
use Rattle.nested_itp.specs.NestedRefutations.Refutations.{side_of, View, Gathered, Stop, at_leaf, at_cut, at_group, nowhere, stops, stops_at, with_own, opened}
use Rattle.nested_itp.specs.NestedRefutations.Numbers.{Step, IsFalse, begins}

abbrev pub IsNotEmpty : {X : Type 0} → List X → Type 0
IsNotEmpty [] = ⊥
IsNotEmpty (x ∷ xs) = Unit {0}

-- if it stops at a group
abbrev pub HasGroup : Gathered → Stop → Type 0
HasGroup g (at_leaf n b parts) = Unit {0}
HasGroup g (at_cut r col k low high) = Unit {0}
HasGroup g (at_group s) = IsNotEmpty g.groups
HasGroup g nowhere = Unit {0}

-- where a group is opened
abbrev pub AfterOpening : Option Gathered → (Gathered → Type 0) → Type 0
AfterOpening None P = Unit {0}
AfterOpening (Some g) P = P g

-- where these sides lead from there, if they lead to a stop
abbrev pub HasGroupAlong : View → List Bool → Gathered → Stop → Type 0
HasGroupAlong v [] g stop = HasGroup g stop
HasGroupAlong v (side ∷ sides) g (at_leaf n b parts) = Unit {0}
HasGroupAlong v (side ∷ sides) g (at_cut r col k low high) = HasGroupAlong v sides (with_own v r col k side g) (stops_at v g.taken (side_of side low high))
HasGroupAlong v (side ∷ sides) g (at_group s) = AfterOpening (opened v side g g.groups) (λ h. HasGroupAlong v sides h (stops_at v h.taken s))
HasGroupAlong v (side ∷ sides) g nowhere = Unit {0}

-- from there on
abbrev pub GroupsWait : View → Gathered → Stop → Type 0
GroupsWait v g stop = (sides : List Bool) → HasGroupAlong v sides g stop

-- where no claim of the step's triple is false
abbrev pub StepWaits : Graph → List Letter → Tree → Step → Type 0
StepWaits g w t s = AllByRecursion (λ c. IsFalse g w t s.view c → ⊥) s.view.claims → GroupsWait s.view (begins g w t s) (stops s.view [] 0 (root_of g w) t)
