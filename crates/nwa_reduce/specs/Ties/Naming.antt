-- Names of states, one for each state that is kept.
use Rattle.std.specs.Prelude.{◌≡◌, ◌≢◌, ◌<◌, ◌≤◌, ◌⊎◌, ◌↔◌, ℕ, List, [], ◌∷◌, Option, None, Some, slice_get}
use Rattle.nwa_base.specs.Members.{Member}
use Rattle.nwa_base.specs.Automata.{Automaton}
use Rattle.nwa_reduce.specs.Ways.{IsUseful}
use Rattle.nwa_reduce.specs.Lean.{AreTwins}
use Rattle.nwa_reduce.specs.Images.{IsSafe}

-- no two members are equal
abbrev pub AreDistinct : {X : Type 0} → List X → Type 0
AreDistinct [] = Unit {0}
AreDistinct (x ∷ xs) = (Member xs x → ⊥) × AreDistinct xs

-- a name that stands in a list, or none past its end
abbrev pub name_at : Option (Option ℕ) → Option ℕ
name_at None = None
name_at (Some name) = name

-- the name of a state, in a list of the names of all states
abbrev pub named : List (Option ℕ) → ℕ → Option ℕ
named names q = name_at (slice_get names q)

-- The names are numbers below `count`, no more than there are states. The start has one, and the names are safe.
pub record IsNaming (m : Automaton) (names : List (Option ℕ)) (count : ℕ) : Type 0 where
  pub few : count ≤ m.states
  pub within : (q x : ℕ) → named names q ≡ Some x → x < count
  pub start : (x : ℕ) × (named names m.start ≡ Some x)
  pub safe : IsSafe m (named names)

-- the names of the start and of the useful states
pub record IsTrimming (m : Automaton) (names : List (Option ℕ)) (count : ℕ) : Type 0 where
  pub naming : IsNaming m names count
  pub whole : count ≡ m.states → (q : ℕ) → q < m.states → q ≢ m.start → IsUseful m q

-- Each state has a name, and each name is one of a state. Where there are as many names as states, no two states are twins.
pub record IsMerging (m : Automaton) (names : List (Option ℕ)) (count : ℕ) : Type 0 where
  pub naming : IsNaming m names count
  pub total : (q : ℕ) → q < m.states → (x : ℕ) × (named names q ≡ Some x)
  pub onto : (x : ℕ) → x < count → (q : ℕ) × (q < m.states) × (named names q ≡ Some x)
  pub whole : count ≡ m.states → (p q : ℕ) → p < m.states → q < m.states → AreTwins m p q → p ≡ q

-- the state is the start, or stands in both sets
abbrev pub KeepsState : ℕ → List ℕ → List ℕ → ℕ → Type 0
KeepsState start reached ending q = (q ≡ start) ⊎ (Member reached q × Member ending q)

-- the list has the states that are kept, each once
pub record IsOrder (start : ℕ) (reached ending kept : List ℕ) : Type 0 where
  pub distinct : AreDistinct kept
  pub has : (q : ℕ) → Member kept q ↔ KeepsState start reached ending q

-- the name of a state is its place in the list, if it has one
pub record IsIndex (kept : List ℕ) (names : List (Option ℕ)) : Type 0 where
  pub named : (q x : ℕ) → slice_get names q ≡ Some (Some x) → slice_get kept x ≡ Some q
  pub unnamed : (q : ℕ) → slice_get names q ≡ Some None → Member kept q → ⊥
