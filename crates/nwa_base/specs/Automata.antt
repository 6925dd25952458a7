-- Nested word automata, as contracts see them.
use Rattle.std.specs.Prelude.{◌≡◌, ℕ, ◌<◌, ◌≤◌, ◌⊎◌, List}
use Rattle.std.specs.List.{AllByRecursion}
use Rattle.nwa_base.specs.Members.{SameMembers}
use Rattle.nwa_base.specs.declared.letters.Kind.{Kind}
use Rattle.nwa_base.specs.declared.letters.Kind.TheVariants.{Inside, Call, Back}
use Rattle.nwa_base.specs.declared.letters.Letter.{Letter}

-- The states are the numbers below `states`. An edge (q, a, e) leads by the letter a from q to e; an edge (q, p, a, e)
-- does so where p was the state before the call that the return a matches.
pub record Automaton : Type 0 where
  pub states : ℕ
  pub start : ℕ
  pub finals : List ℕ
  pub insides : List (ℕ × Letter × ℕ)
  pub calls : List (ℕ × Letter × ℕ)
  pub backs : List (ℕ × ℕ × Letter × ℕ)

-- an edge between states by a letter of that kind
pub record IsEdge (states : ℕ) (kind : Kind) (e : ℕ × Letter × ℕ) : Type 0 where
  pub «from» : e.0 < states
  pub to : e.2 < states
  pub letter : e.1.kind ≡ kind

-- an edge between states by a return
pub record IsBackEdge (states : ℕ) (e : ℕ × ℕ × Letter × ℕ) : Type 0 where
  pub «from» : e.0 < states
  pub before : e.1 < states
  pub to : e.3 < states
  pub letter : e.2.kind ≡ Back

-- what an automaton keeps: its edges are between states, and by letters of their kind
pub record IsAutomaton (m : Automaton) : Type 0 where
  pub start : m.start < m.states
  pub finals : AllByRecursion (λ q. q < m.states) m.finals
  pub insides : AllByRecursion (IsEdge m.states Inside) m.insides
  pub calls : AllByRecursion (IsEdge m.states Call) m.calls
  pub backs : AllByRecursion (IsBackEdge m.states) m.backs

-- one of the states is out of range
abbrev pub IsOutside : ℕ → ℕ → ℕ → Type 0
IsOutside states q to = (states ≤ q) ⊎ (states ≤ to)

-- one of three states is out of range
abbrev pub IsOutsideBack : ℕ → ℕ → ℕ → ℕ → Type 0
IsOutsideBack states q p to = (states ≤ q) ⊎ (states ≤ p) ⊎ (states ≤ to)

-- the automata have one start, and final states and edges that are equal as sets
pub record SameEdges (m n : Automaton) : Type 0 where
  pub start : m.start ≡ n.start
  pub finals : SameMembers m.finals n.finals
  pub insides : SameMembers m.insides n.insides
  pub calls : SameMembers m.calls n.calls
  pub backs : SameMembers m.backs n.backs
