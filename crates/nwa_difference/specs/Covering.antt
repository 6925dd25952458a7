-- States of a second automaton that accept whatever is accepted from states of a first.
use Rattle.std.specs.Prelude.{◌≡◌, ◌⊎◌, ℕ, List, [], ◌∷◌, Option, None, Some, slice_get, unwrap_or}
use Rattle.nwa_base.specs.declared.letters.Letter.{Letter}
use Rattle.nwa_base.specs.Members.{Member}
use Rattle.nwa_base.specs.Automata.{Automaton}
use Rattle.nwa_base.specs.Acceptance.{AcceptsFrom}
use Rattle.nwa_base.specs.Pairs.{IsInsideOf, IsCallOf, IsBackOf}

-- calls by one letter lead from p in a and from k in b
abbrev pub CallAlike : Automaton → Automaton → ℕ → ℕ → Type 0
CallAlike a b p k = (c : Letter) × (n : ℕ) × (j : ℕ) × Member a.calls (p, c, n) × Member b.calls (k, c, j)

-- the states before the open calls of a and of b call alike, one by one
abbrev pub AllCallAlike : Automaton → Automaton → List ℕ → List ℕ → Type 0
AllCallAlike a b [] [] = Unit {0}
AllCallAlike a b [] (k ∷ ks) = ⊥
AllCallAlike a b (p ∷ ps) [] = ⊥
AllCallAlike a b (p ∷ ps) (k ∷ ks) = CallAlike a b p k × AllCallAlike a b ps ks

-- whatever is accepted from q of a is accepted from u of b, where the states before the open calls call alike
abbrev pub Covers : Automaton → Automaton → ℕ → ℕ → Type 0
Covers a b q u = (w : List Letter) (ps ks : List ℕ) → AllCallAlike a b ps ks → AcceptsFrom a ps q w → AcceptsFrom b ks u w

-- a pair of the set ends in a state of b that covers q of a
pub record IsCovered (a b : Automaton) (q : ℕ) (s : List (ℕ × ℕ)) : Type 0 where
  pub key : ℕ
  pub state : ℕ
  pub member : Member s (key, state)
  pub covers : Covers a b q state

-- the inside letter leads from the set to one that covers e
pub record IsInsideCovered (a b : Automaton) (s : List (ℕ × ℕ)) (l : Letter) (e : ℕ) : Type 0 where
  pub set : List (ℕ × ℕ)
  pub of : IsInsideOf b l s set
  pub covered : IsCovered a b e set

-- the call letter leads from the set to one that covers e
pub record IsCallCovered (a b : Automaton) (s : List (ℕ × ℕ)) (l : Letter) (e : ℕ) : Type 0 where
  pub set : List (ℕ × ℕ)
  pub of : IsCallOf b l s set
  pub covered : IsCovered a b e set

-- the return leads from the set s, where `outer` was the set before the call, to one that covers e
pub record IsBackCovered (a b : Automaton) (outer s : List (ℕ × ℕ)) (l : Letter) (e : ℕ) : Type 0 where
  pub set : List (ℕ × ℕ)
  pub of : IsBackOf b l outer s set
  pub covered : IsCovered a b e set

-- A relation of states of a to covers in b: the covers of a final state are final, and each edge of a state has one of each cover, by the
-- same letter, to a cover of its end; a return has one whatever the state of b before the call was, of those that call alike.
pub record AreCovers (a b : Automaton) (R : ℕ → ℕ → Type 0) : Type 0 where
  pub finals : (q u : ℕ) → R q u → Member a.finals q → Member b.finals u
  pub inside : (q e u : ℕ) (l : Letter) → R q u → Member a.insides (q, l, e) → (v : ℕ) × R e v × Member b.insides (u, l, v)
  pub call : (q e u : ℕ) (l : Letter) → R q u → Member a.calls (q, l, e) → (v : ℕ) × R e v × Member b.calls (u, l, v)
  pub back : (q p e u k : ℕ) (l : Letter) → R q u → Member a.backs (q, p, l, e) → CallAlike a b p k → (v : ℕ) × R e v × Member b.backs (u, k, l, v)

-- no edge leaves the state
pub record IsEnd (a : Automaton) (q : ℕ) : Type 0 where
  pub inside : (l : Letter) (e : ℕ) → Member a.insides (q, l, e) → ⊥
  pub call : (l : Letter) (e : ℕ) → Member a.calls (q, l, e) → ⊥
  pub back : (p : ℕ) (l : Letter) (e : ℕ) → Member a.backs (q, p, l, e) → ⊥

-- the cover that stands in a list under the number of a state, if there is one
abbrev pub cover_in : List (Option ℕ) → ℕ → Option ℕ
cover_in covers q = unwrap_or (slice_get covers q) None

-- u stands in the list as the cover of q, or no edge leaves q and u is final
abbrev pub HasCover : Automaton → Automaton → List (Option ℕ) → ℕ → ℕ → Type 0
HasCover a b covers q u = (cover_in covers q ≡ Some u) ⊎ (IsEnd a q × Member b.finals u)

-- the covers of a list are right
abbrev pub HaveCovers : Automaton → Automaton → List (Option ℕ) → Type 0
HaveCovers a b covers = AreCovers a b (HasCover a b covers)

-- the cover of the edge's state, if it has one, goes on by the inside edge, to a cover of its end
abbrev pub InsideGoesOn : Automaton → Automaton → List (Option ℕ) → ℕ × Letter × ℕ → Type 0
InsideGoesOn a b covers e = (u : ℕ) → cover_in covers e.0 ≡ Some u → (v : ℕ) × HasCover a b covers e.2 v × Member b.insides (u, e.1, v)

-- the same by a call
abbrev pub CallGoesOn : Automaton → Automaton → List (Option ℕ) → ℕ × Letter × ℕ → Type 0
CallGoesOn a b covers e = (u : ℕ) → cover_in covers e.0 ≡ Some u → (v : ℕ) × HasCover a b covers e.2 v × Member b.calls (u, e.1, v)

-- the same by a return, whatever the state of b before the call was, of those that call as that of a does
abbrev pub BackGoesOn : Automaton → Automaton → List (Option ℕ) → ℕ × ℕ × Letter × ℕ → Type 0
BackGoesOn a b covers e =
    (u k : ℕ) → cover_in covers e.0 ≡ Some u → CallAlike a b e.1 k → (v : ℕ) × HasCover a b covers e.3 v × Member b.backs (u, k, e.2, v)

-- the return l leads from u to v, whatever the state before the call was, of those that call by c
abbrev pub ReturnsFromAll : Automaton → Letter → ℕ → Letter → ℕ → Type 0
ReturnsFromAll b c u l v = (k j : ℕ) → Member b.calls (k, c, j) → Member b.backs (u, k, l, v)

-- a pair of the set ends in the cover that stands in the list
abbrev pub EndsInCover : List (Option ℕ) → ℕ → List (ℕ × ℕ) → Type 0
EndsInCover covers q s = (u : ℕ) × (k : ℕ) × (cover_in covers q ≡ Some u) × Member s (k, u)
