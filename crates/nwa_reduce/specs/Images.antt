-- Automata whose states are named anew: some are left out, and some have one name.
use Rattle.std.specs.Prelude.{◌≡◌, ◌↔◌, ℕ, List, Option, None, Some}
use Rattle.nwa_base.specs.declared.letters.Letter.{Letter}
use Rattle.nwa_base.specs.Members.{Member}
use Rattle.nwa_base.specs.Automata.{Automaton}
use Rattle.nwa_reduce.specs.Ways.{IsUseful}

-- a member of the list is related to y
abbrev pub Among : {X Y : Type 0} → (X → Y → Type 0) → List X → Y → Type 0
Among {X} R xs y = (x : X) × Member xs x × R x y

-- the second edge has the names of the first one's states, and its letter
abbrev pub IsNamedEdge : (ℕ → Option ℕ) → ℕ × Letter × ℕ → ℕ × Letter × ℕ → Type 0
IsNamedEdge name e x = (name e.0 ≡ Some x.0) × (e.1 ≡ x.1) × (name e.2 ≡ Some x.2)

-- the same of edges by returns
abbrev pub IsNamedBack : (ℕ → Option ℕ) → ℕ × ℕ × Letter × ℕ → ℕ × ℕ × Letter × ℕ → Type 0
IsNamedBack name e x = (name e.0 ≡ Some x.0) × (name e.1 ≡ Some x.1) × (e.2 ≡ x.2) × (name e.3 ≡ Some x.3)

-- n is what the names make of m: states without a name are left out, with their edges
pub record IsImage (m : Automaton) (name : ℕ → Option ℕ) (n : Automaton) : Type 0 where
  pub start : name m.start ≡ Some n.start
  pub finals : (x : ℕ) → Member n.finals x ↔ Among (λ q y. name q ≡ Some y) m.finals x
  pub insides : (x : ℕ × Letter × ℕ) → Member n.insides x ↔ Among (IsNamedEdge name) m.insides x
  pub calls : (x : ℕ × Letter × ℕ) → Member n.calls x ↔ Among (IsNamedEdge name) m.calls x
  pub backs : (x : ℕ × ℕ × Letter × ℕ) → Member n.backs x ↔ Among (IsNamedBack name) m.backs x

-- Where p is final, q is, and each edge of p has one of q to a state of the same name, by the same letter and, for returns,
-- with the same state before the call, or where p and q are the states before the call, from the same exit.
pub record IsLike {X : Type 0} (m : Automaton) (name : ℕ → X) (p q : ℕ) : Type 0 where
  pub finals : Member m.finals p → Member m.finals q
  pub insides : (a : Letter) (e : ℕ) → Member m.insides (p, a, e) → (f : ℕ) × Member m.insides (q, a, f) × (name f ≡ name e)
  pub calls : (a : Letter) (e : ℕ) → Member m.calls (p, a, e) → (f : ℕ) × Member m.calls (q, a, f) × (name f ≡ name e)
  pub backs : (s : ℕ) (a : Letter) (e : ℕ) → Member m.backs (p, s, a, e) → (f : ℕ) × Member m.backs (q, s, a, f) × (name f ≡ name e)
  pub before : (s : ℕ) (a : Letter) (e : ℕ) → Member m.backs (s, p, a, e) → (f : ℕ) × Member m.backs (s, q, a, f) × (name f ≡ name e)

-- only useless states are left out, and states of one name are alike
pub record IsSafe (m : Automaton) (name : ℕ → Option ℕ) : Type 0 where
  pub useless : (q : ℕ) → name q ≡ None → IsUseful m q → ⊥
  pub alike : (p q x : ℕ) → name p ≡ Some x → name q ≡ Some x → IsLike m name p q
