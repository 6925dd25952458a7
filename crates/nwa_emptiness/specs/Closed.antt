-- Which pairs of states a search has to find: an entry, which is the state after the innermost open call, or None where no
-- call is open, and the present state.
use Rattle.std.specs.Prelude.{ℕ, List, Option, None, Some}
use Rattle.nwa_base.specs.declared.letters.Letter.{Letter}
use Rattle.nwa_base.specs.Members.{Member}
use Rattle.nwa_base.specs.Automata.{Automaton}

-- The start is among the pairs, and each edge leads from pairs to pairs. A return leads from a pair inside a call to the
-- pairs from which this call is made, whatever their own entry is.
pub record IsClosed (m : Automaton) (pairs : List (Option ℕ × ℕ)) : Type 0 where
  pub start : Member pairs (None, m.start)
  pub inside : (k : Option ℕ) (q e : ℕ) (a : Letter) → Member pairs (k, q) → Member m.insides (q, a, e) → Member pairs (k, e)
  pub call : (k : Option ℕ) (q e : ℕ) (c : Letter) → Member pairs (k, q) → Member m.calls (q, c, e) → Member pairs (Some e, e)
  pub back : (k : Option ℕ) (p n q e : ℕ) (c r : Letter) → Member pairs (k, p) → Member m.calls (p, c, n) →
      Member pairs (Some n, q) → Member m.backs (q, p, r, e) → Member pairs (k, e)

-- no pair ends in a final state
abbrev pub NoneFinal : Automaton → List (Option ℕ × ℕ) → Type 0
NoneFinal m pairs = (k : Option ℕ) (q : ℕ) → Member pairs (k, q) → Member m.finals q → ⊥
