-- Sets of pairs, by which an automaton is made deterministic: the state before the innermost open call, or the start
-- where no call is open, and the present state (Alur and Madhusudan, 2009).
use Rattle.std.specs.Prelude.{◌≡◌, ℕ, List, [], ◌∷◌, ◌↔◌}
use Rattle.nwa_base.specs.declared.letters.Letter.{Letter}
use Rattle.nwa_base.specs.Members.{Member}
use Rattle.nwa_base.specs.Automata.{Automaton}
use Rattle.nwa_base.specs.Acceptance.{AcceptsFrom}

-- The sets, innermost first, hold the present state q and the states before the open calls, each with the one around it.
abbrev pub Linked : ℕ → List (List (ℕ × ℕ)) → List ℕ → ℕ → Type 0
Linked start [] before q = ⊥
Linked start (s ∷ []) [] q = Member s (start, q)
Linked start (s ∷ []) (p ∷ before) q = ⊥
Linked start (s ∷ t ∷ sets) [] q = ⊥
Linked start (s ∷ t ∷ sets) (p ∷ before) q = Member s (p, q) × Linked start (t ∷ sets) before p

-- from some states that the sets hold, the word is accepted
pub record SomeAccepts (m : Automaton) (sets : List (List (ℕ × ℕ))) (w : List Letter) : Type 0 where
  pub before : List ℕ
  pub state : ℕ
  pub linked : Linked m.start sets before state
  pub accepts : AcceptsFrom m before state w

-- each pair of each set has one in the set around it, which ends in the state before the call
abbrev pub IsSupported : ℕ → List (List (ℕ × ℕ)) → Type 0
IsSupported start [] = Unit {0}
IsSupported start (s ∷ []) = (k q : ℕ) → Member s (k, q) → k ≡ start
IsSupported start (s ∷ t ∷ sets) = ((k q : ℕ) → Member s (k, q) → (j : ℕ) × Member t (j, k)) × IsSupported start (t ∷ sets)

-- some pair ends in a final state
abbrev pub HasFinal : Automaton → List (ℕ × ℕ) → Type 0
HasFinal m s = (k : ℕ) × (q : ℕ) × Member s (k, q) × Member m.finals q

-- t are the pairs to which the inside letter a leads from s
pub record IsInsideOf (m : Automaton) (a : Letter) (s t : List (ℕ × ℕ)) : Type 0 where
  pub sound : (k e : ℕ) → Member t (k, e) → (q : ℕ) × Member s (k, q) × Member m.insides (q, a, e)
  pub complete : (k q e : ℕ) → Member s (k, q) → Member m.insides (q, a, e) → Member t (k, e)

-- t are the pairs to which the call letter a leads from s
pub record IsCallOf (m : Automaton) (a : Letter) (s t : List (ℕ × ℕ)) : Type 0 where
  pub sound : (q e : ℕ) → Member t (q, e) → (k : ℕ) × Member s (k, q) × Member m.calls (q, a, e)
  pub complete : (k q e : ℕ) → Member s (k, q) → Member m.calls (q, a, e) → Member t (q, e)

-- t are the pairs to which the return a leads from s, where b was the set before the call
pub record IsBackOf (m : Automaton) (a : Letter) (b s t : List (ℕ × ℕ)) : Type 0 where
  pub sound : (k e : ℕ) → Member t (k, e) → (p : ℕ) × (q : ℕ) × Member b (k, p) × Member s (p, q) × Member m.backs (q, p, a, e)
  pub complete : (k p q e : ℕ) → Member b (k, p) → Member s (p, q) → Member m.backs (q, p, a, e) → Member t (k, e)

-- Reading the letter a turns the sets into the next ones, innermost first.
pub record LettersOn (m : Automaton) (a : Letter) (sets next : List (List (ℕ × ℕ))) : Type 0 where
  pub same : (w : List Letter) → SomeAccepts m sets (a ∷ w) ↔ SomeAccepts m next w
  pub supported : IsSupported m.start sets → IsSupported m.start next
