-- Images in which states of different calls are one.
use Rattle.std.specs.Prelude.{◌≡◌, ◌<◌, ◌≤◌, ℕ, List, Option, Some}
use Rattle.nwa_base.specs.declared.letters.Letter.{Letter}
use Rattle.nwa_base.specs.Members.{Member}
use Rattle.nwa_base.specs.Automata.{Automaton}
use Rattle.nwa_reduce.specs.Ties.Naming.{named}
use Rattle.nwa_reduce.specs.Ties.Levels.{IsInCall, Returns}

-- each state has a name, and each number below the count is the name of a state
pub record IsTotal (m : Automaton) (names : List (Option ℕ)) (count : ℕ) : Type 0 where
  pub few : count ≤ m.states
  pub within : (q x : ℕ) → named names q ≡ Some x → x < count
  pub total : (q : ℕ) → q < m.states → (x : ℕ) × (named names q ≡ Some x)
  pub onto : (x : ℕ) → x < count → (q : ℕ) × (q < m.states) × (named names q ≡ Some x)

-- by this letter an edge leads from the state to one that is named so
abbrev pub LeadsToName : List (ℕ × Letter × ℕ) → (ℕ → Option ℕ) → ℕ → Letter → ℕ → Type 0
LeadsToName edges name q a y = (e : ℕ) × Member edges (q, a, e) × (name e ≡ Some y)

-- by this return an edge leads from the state to one that is named so, where p was the state before the call
abbrev pub ReturnsToName : List (ℕ × ℕ × Letter × ℕ) → (ℕ → Option ℕ) → ℕ → ℕ → Letter → ℕ → Type 0
ReturnsToName edges name q p a y = (e : ℕ) × Member edges (q, p, a, e) × (name e ≡ Some y)

-- What n has at x the state q of m has: it is final, it has an edge for each inside letter and call, and returns leave it.
pub record IsCopy (m : Automaton) (name : ℕ → Option ℕ) (n : Automaton) (q x : ℕ) : Type 0 where
  pub finals : Member n.finals x → Member m.finals q
  pub insides : (a : Letter) (y : ℕ) → Member n.insides (x, a, y) → LeadsToName m.insides name q a y
  pub calls : (a : Letter) (y : ℕ) → Member n.calls (x, a, y) → LeadsToName m.calls name q a y
  pub returns : Returns n x → Returns m q

-- What n has at a name each state of that name has; a return edge, where the state may stand in a call that the state before makes.
pub record IsFolding (m : Automaton) (name : ℕ → Option ℕ) (n : Automaton) : Type 0 where
  pub copies : (q x : ℕ) → name q ≡ Some x → IsCopy m name n q x
  pub backs : (p q x z : ℕ) → IsInCall m p q → name q ≡ Some x → name p ≡ Some z → (a : Letter) (y : ℕ) →
      Member n.backs (x, z, a, y) → ReturnsToName m.backs name q p a y

-- the state is a copy of its name, if it has one
abbrev pub IsStateCopy : Automaton → (ℕ → Option ℕ) → Automaton → ℕ → Type 0
IsStateCopy m name n q = (x : ℕ) → name q ≡ Some x → IsCopy m name n q x

-- return edges lead from q, where p was the state before the call, as they do between their names
abbrev pub IsJoinCopy : Automaton → (ℕ → Option ℕ) → Automaton → ℕ → ℕ → Type 0
IsJoinCopy m name n p q = (x z : ℕ) → name q ≡ Some x → name p ≡ Some z → (a : Letter) (y : ℕ) →
    Member n.backs (x, z, a, y) → ReturnsToName m.backs name q p a y
