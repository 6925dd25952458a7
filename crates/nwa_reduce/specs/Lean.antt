-- Automata from which no state can be taken away.
use Rattle.std.specs.Prelude.{◌≡◌, ◌≢◌, ◌<◌, ◌≤◌, ◌↔◌, ℕ, List}
use Rattle.nwa_base.specs.declared.letters.Letter.{Letter}
use Rattle.nwa_base.specs.Members.{Member}
use Rattle.nwa_base.specs.Automata.{Automaton}
use Rattle.nwa_base.specs.Acceptance.{Accepts}
use Rattle.nwa_reduce.specs.Ways.{IsUseful}

-- Both are final or neither is, they are left by the same edges, and the same return edges name them as the state before the
-- call.
pub record AreTwins (m : Automaton) (p q : ℕ) : Type 0 where
  pub finals : Member m.finals p ↔ Member m.finals q
  pub insides : (a : Letter) (e : ℕ) → Member m.insides (p, a, e) ↔ Member m.insides (q, a, e)
  pub calls : (a : Letter) (e : ℕ) → Member m.calls (p, a, e) ↔ Member m.calls (q, a, e)
  pub backs : (s : ℕ) (a : Letter) (e : ℕ) → Member m.backs (p, s, a, e) ↔ Member m.backs (q, s, a, e)
  pub before : (s : ℕ) (a : Letter) (e : ℕ) → Member m.backs (s, p, a, e) ↔ Member m.backs (s, q, a, e)

-- each state but the start lies on a way from the start to a final state
abbrev pub IsTrim : Automaton → Type 0
IsTrim m = (q : ℕ) → q < m.states → q ≢ m.start → IsUseful m q

-- it is trim, and no two states are twins
pub record IsLean (m : Automaton) : Type 0 where
  pub trim : IsTrim m
  pub apart : (p q : ℕ) → p < m.states → q < m.states → AreTwins m p q → p ≡ q

-- the second automaton accepts the same words, and has no more states
pub record IsReduced (m n : Automaton) : Type 0 where
  pub words : (w : List Letter) → Accepts n w ↔ Accepts m w
  pub states : n.states ≤ m.states
