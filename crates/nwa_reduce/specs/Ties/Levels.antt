-- Ways that stay in one call.
use Rattle.std.specs.Prelude.{ℕ, ◌⊎◌, List}
use Rattle.nwa_base.specs.declared.letters.Letter.{Letter}
use Rattle.nwa_base.specs.Members.{Member}
use Rattle.nwa_base.specs.Automata.{Automaton}
use Rattle.nwa_reduce.specs.Ways.{IsWay}

-- a step leads from q to e in the call in which q stands: an edge by an inside letter, or a call from q that returns to e
abbrev pub Stays : Automaton → ℕ → ℕ → Type 0
Stays m q e = ((a : Letter) × Member m.insides (q, a, e)) ⊎ ((x : ℕ) × (a : Letter) × Member m.backs (x, q, a, e))

-- q may stand in a call that p makes: steps that stay in the call lead from its entry to q
pub record IsInCall (m : Automaton) (p q : ℕ) : Type 0 where
  pub letter : Letter
  pub entry : ℕ
  pub states : List ℕ
  pub call : Member m.calls (p, letter, entry)
  pub way : IsWay (Stays m) entry states q

-- a return edge leaves q
pub record Returns (m : Automaton) (q : ℕ) : Type 0 where
  pub before : ℕ
  pub letter : Letter
  pub end : ℕ
  pub edge : Member m.backs (q, before, letter, end)

-- the list has each state before a call with each state in the call that a return edge leaves
abbrev pub AreJoins : Automaton → List (ℕ × ℕ) → Type 0
AreJoins m joins = (p q : ℕ) → IsInCall m p q → Returns m q → Member joins (p, q)

-- what stood in the list stays
abbrev pub Keeps : List (ℕ × ℕ) → List (ℕ × ℕ) → Type 0
Keeps old new = (x : ℕ × ℕ) → Member old x → Member new x

-- the new list has the old pairs, and each caller with the state
pub record JoinsCallers (callers : List (ℕ × Letter × ℕ)) (q : ℕ) (old new : List (ℕ × ℕ)) : Type 0 where
  pub keeps : Keeps old new
  pub joins : (e : ℕ × Letter × ℕ) → Member callers e → Member new (e.0, q)

-- the same for each of the states that a return edge leaves
pub record JoinsExits (m : Automaton) (callers : List (ℕ × Letter × ℕ)) (inner : List ℕ) (old new : List (ℕ × ℕ)) : Type 0 where
  pub keeps : Keeps old new
  pub joins : (q : ℕ) → Member inner q → Returns m q → (e : ℕ × Letter × ℕ) → Member callers e → Member new (e.0, q)

-- the same for each state that calls the entry, and each state in the call
pub record JoinsOf (m : Automaton) (entry : ℕ) (old new : List (ℕ × ℕ)) : Type 0 where
  pub keeps : Keeps old new
  pub joins : (p q : ℕ) (c : Letter) (way : List ℕ) → Member m.calls (p, c, entry) → IsWay (Stays m) entry way q → Returns m q → Member new (p, q)
