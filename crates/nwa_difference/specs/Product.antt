-- The product of an automaton and the sets of pairs of another, by which words are told that the first accepts and the
-- other does not (Alur and Madhusudan, 2009). It is left out where the other accepts whatever the first does.
use Rattle.std.specs.Prelude.{◌≡◌, ◌↔◌, ◌⊎◌, ℕ, List, [], ◌∷◌, Option, None, Some}
use Rattle.nwa_base.specs.declared.letters.Letter.{Letter}
use Rattle.nwa_base.specs.Members.{Member}
use Rattle.nwa_base.specs.Automata.{Automaton}
use Rattle.nwa_base.specs.Pairs.{IsInsideOf, IsCallOf, IsBackOf, HasFinal}
use Rattle.nwa_difference.specs.Covering.{IsInsideCovered, IsCallCovered, IsBackCovered}

-- Each state x of d stands for the state `first x` of a and the set `set x` of pairs of b. The edges of d are edges of a, and
-- lead from set to set as the letters do in b.
pub record AreEdges (a b d : Automaton) (first : ℕ → ℕ) (set : ℕ → List (ℕ × ℕ)) : Type 0 where
  pub inside : (x y : ℕ) (l : Letter) → Member d.insides (x, l, y) → Member a.insides (first x, l, first y) × IsInsideOf b l (set x) (set y)
  pub call : (x y : ℕ) (l : Letter) → Member d.calls (x, l, y) → Member a.calls (first x, l, first y) × IsCallOf b l (set x) (set y)
  pub back : (x p y : ℕ) (l : Letter) → Member d.backs (x, p, l, y) →
      Member a.backs (first x, first p, l, first y) × IsBackOf b l (set p) (set x) (set y)

-- The pairs are of an entry, the state after the innermost open call or None where no call is open, and a present state.
-- They have the start, and go on along the edges of d; a return leads to the pairs from which its call is made.
pub record GoOn (d : Automaton) (pairs : List (Option ℕ × ℕ)) : Type 0 where
  pub start : Member pairs (None, d.start)
  pub inside : (k : Option ℕ) (x y : ℕ) (l : Letter) → Member pairs (k, x) → Member d.insides (x, l, y) → Member pairs (k, y)
  pub call : (k : Option ℕ) (x y : ℕ) (l : Letter) → Member pairs (k, x) → Member d.calls (x, l, y) → Member pairs (Some y, y)
  pub back : (k : Option ℕ) (p n x y : ℕ) (c l : Letter) → Member pairs (k, p) → Member d.calls (p, c, n) → Member pairs (Some n, x) →
      Member d.backs (x, p, l, y) → Member pairs (k, y)

-- from the pairs each edge of a has one of d, or leads to a state that is covered by the set to which its letter leads
pub record HaveEdges (a b d : Automaton) (first : ℕ → ℕ) (set : ℕ → List (ℕ × ℕ)) (pairs : List (Option ℕ × ℕ)) : Type 0 where
  pub inside : (k : Option ℕ) (x e : ℕ) (l : Letter) → Member pairs (k, x) → Member a.insides (first x, l, e) →
      ((y : ℕ) × Member d.insides (x, l, y) × (first y ≡ e)) ⊎ IsInsideCovered a b (set x) l e
  pub call : (k : Option ℕ) (x e : ℕ) (l : Letter) → Member pairs (k, x) → Member a.calls (first x, l, e) →
      ((y : ℕ) × Member d.calls (x, l, y) × (first y ≡ e)) ⊎ IsCallCovered a b (set x) l e
  pub back : (k : Option ℕ) (p n x e : ℕ) (c l : Letter) → Member pairs (k, p) → Member d.calls (p, c, n) → Member pairs (Some n, x) →
      Member a.backs (first x, first p, l, e) → ((y : ℕ) × Member d.backs (x, p, l, y) × (first y ≡ e)) ⊎ IsBackCovered a b (set p) (set x) l e

-- d is the product: its start stands for the start of a and the start of b paired with itself, and of the pairs those end
-- in a final state whose state is final in a and whose set has no pair that ends in a final state of b
pub record IsProduct (a b d : Automaton) (first : ℕ → ℕ) (set : ℕ → List (ℕ × ℕ)) (pairs : List (Option ℕ × ℕ)) : Type 0 where
  pub start : first d.start ≡ a.start
  pub start_set : set d.start ≡ (b.start, b.start) ∷ []
  pub are : AreEdges a b d first set
  pub on : GoOn d pairs
  pub has : HaveEdges a b d first set pairs
  pub finals : (k : Option ℕ) (x : ℕ) → Member pairs (k, x) → Member d.finals x ↔ (Member a.finals (first x) × (HasFinal b (set x) → ⊥))
