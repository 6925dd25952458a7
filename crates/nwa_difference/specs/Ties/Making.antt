-- The product while it grows.
use Rattle.std.specs.Prelude.{◌≡◌, ◌^◌, ◌<◌, ◌↔◌, ◌⊎◌, ℕ, List, [], ◌∷◌, ◌++◌, Option, length, slice_index_or}
use Rattle.nwa_base.specs.declared.letters.Letter.{Letter}
use Rattle.nwa_base.specs.Members.{Member}
use Rattle.nwa_base.specs.Automata.{Automaton, IsAutomaton}
use Rattle.nwa_base.specs.Pairs.{IsInsideOf, IsCallOf, IsBackOf, HasFinal}
use Rattle.nwa_determinise.specs.Kept.{Kept, set_at, Grows}
use Rattle.nwa_difference.specs.Covering.{HaveCovers, IsInsideCovered, IsCallCovered, IsBackCovered}
use Rattle.nwa_difference.specs.Product.{AreEdges}

-- the first automaton, the sets of pairs of the second, covers of states of the first, the product, and for each of its states one of
-- the first automaton and the number of a set
pub record Made : Type 0 where
  pub first : Automaton
  pub sets : Kept
  pub covers : List (Option ℕ)
  pub product : Automaton
  pub states : List (ℕ × ℕ)

-- the state of the first automaton for which a state stands
abbrev pub first_at : Made → ℕ → ℕ
first_at p x = (slice_index_or p.states x (0, 0)).0

-- the number of the set for which a state stands
abbrev pub number_at : Made → ℕ → ℕ
number_at p x = (slice_index_or p.states x (0, 0)).1

-- the set for which a state stands
abbrev pub set_of : Made → ℕ → List (ℕ × ℕ)
set_of p x = set_at p.sets (number_at p x)

-- the first automaton accepts in the state, and the second does not in the set
abbrev pub Ends : Automaton → Kept → ℕ → ℕ → Type 0
Ends first sets q s = Member first.finals q × (HasFinal sets.nwa (set_at sets s) → ⊥)

-- the covers and the edges are right, the states are final that have to be, and the start stands for the start of both automata
pub record IsMade (p : Made) : Type 0 where
  pub automaton : IsAutomaton p.product
  pub count : length p.states ≡ p.product.states
  pub small : p.product.states < 2 ^ 32
  pub covers : HaveCovers p.first p.sets.nwa p.covers
  pub numbers : (x : ℕ) → x < length p.states → number_at p x < length p.sets.sets
  pub are : AreEdges p.first p.sets.nwa p.product (first_at p) (set_of p)
  pub finals : (x : ℕ) → x < length p.states → Member p.product.finals x ↔ Ends p.first p.sets (first_at p x) (number_at p x)
  pub start : first_at p p.product.start ≡ p.first.start
  pub start_set : set_of p p.product.start ≡ (p.sets.nwa.start, p.sets.nwa.start) ∷ []

-- More states and sets stand behind those that stood there, and the edges that were there are there. New edges by inside letters
-- and calls leave the states of `leaving` alone, and new returns are those of `back` from a state to a state before its call.
pub record Extends (old new : Made) (leaving : ℕ → Type 0) (back : ℕ → ℕ → Type 0) : Type 0 where
  pub made : IsMade new
  pub first : new.first ≡ old.first
  pub sets : Grows old.sets new.sets
  pub more : List (ℕ × ℕ)
  pub states : new.states ≡ old.states ++ more
  pub start : new.product.start ≡ old.product.start
  pub insides : (e : ℕ × Letter × ℕ) → Member old.product.insides e → Member new.product.insides e
  pub calls : (e : ℕ × Letter × ℕ) → Member old.product.calls e → Member new.product.calls e
  pub backs : (e : ℕ × ℕ × Letter × ℕ) → Member old.product.backs e → Member new.product.backs e
  pub new_insides : (e : ℕ × Letter × ℕ) → Member new.product.insides e → Member old.product.insides e ⊎ leaving e.0
  pub new_calls : (e : ℕ × Letter × ℕ) → Member new.product.calls e → Member old.product.calls e ⊎ leaving e.0
  pub new_backs : (e : ℕ × ℕ × Letter × ℕ) → Member new.product.backs e → Member old.product.backs e ⊎ back e.0 e.1

-- no state
abbrev pub Nowhere : ℕ → Type 0
Nowhere z = ⊥

-- this state alone
abbrev pub Only : ℕ → ℕ → Type 0
Only x z = z ≡ x

-- no two states
abbrev pub NoReturn : ℕ → ℕ → Type 0
NoReturn z w = ⊥

-- from this state to that state before its call alone
abbrev pub OnlyReturn : ℕ → ℕ → ℕ → ℕ → Type 0
OnlyReturn x p z w = (z ≡ x) × (w ≡ p)

-- the state y stands for e and the set to which the inside letter leads from the state x
pub record IsInsideEnd (p : Made) (x : ℕ) (l : Letter) (e y : ℕ) : Type 0 where
  pub within : y < length p.states
  pub first : first_at p y ≡ e
  pub set : IsInsideOf p.sets.nwa l (set_of p x) (set_of p y)

-- the state y stands for e and the set to which the call letter leads from the state x
pub record IsCallEnd (p : Made) (x : ℕ) (l : Letter) (e y : ℕ) : Type 0 where
  pub within : y < length p.states
  pub first : first_at p y ≡ e
  pub set : IsCallOf p.sets.nwa l (set_of p x) (set_of p y)

-- the state y stands for e and the set to which the return leads from the state x, where w was the state before the call
pub record IsBackEnd (p : Made) (x w : ℕ) (l : Letter) (e y : ℕ) : Type 0 where
  pub within : y < length p.states
  pub first : first_at p y ≡ e
  pub set : IsBackOf p.sets.nwa l (set_of p w) (set_of p x) (set_of p y)

-- an edge by the inside letter leads from x to a state that stands for e, or e is covered
abbrev pub HasInside : Made → ℕ → Letter → ℕ → Type 0
HasInside p x l e =
    ((y : ℕ) × Member p.product.insides (x, l, y) × (first_at p y ≡ e)) ⊎
    ((x < length p.states) × IsInsideCovered p.first p.sets.nwa (set_of p x) l e)

-- an edge by the call letter leads from x to a state that stands for e, or e is covered
abbrev pub HasCall : Made → ℕ → Letter → ℕ → Type 0
HasCall p x l e =
    ((y : ℕ) × Member p.product.calls (x, l, y) × (first_at p y ≡ e)) ⊎
    ((x < length p.states) × IsCallCovered p.first p.sets.nwa (set_of p x) l e)

-- an edge by the return leads from x, where w was the state before the call, to a state that stands for e, or e is covered
abbrev pub HasBack : Made → ℕ → ℕ → Letter → ℕ → Type 0
HasBack p x w l e =
    ((y : ℕ) × Member p.product.backs (x, w, l, y) × (first_at p y ≡ e)) ⊎
    ((x < length p.states) × (w < length p.states) × IsBackCovered p.first p.sets.nwa (set_of p w) (set_of p x) l e)

-- x has all of its inside letters
abbrev pub HasInsides : Made → ℕ → Type 0
HasInsides p x = (l : Letter) (e : ℕ) → Member p.first.insides (first_at p x, l, e) → HasInside p x l e

-- x has all of its calls
abbrev pub HasCalls : Made → ℕ → Type 0
HasCalls p x = (l : Letter) (e : ℕ) → Member p.first.calls (first_at p x, l, e) → HasCall p x l e

-- x has all of its returns to w, the state before the call
abbrev pub HasBacks : Made → ℕ → ℕ → Type 0
HasBacks p x w = (l : Letter) (e : ℕ) → Member p.first.backs (first_at p x, first_at p w, l, e) → HasBack p x w l e

-- no return leaves x, whatever the state before the call
abbrev pub NoReturns : Made → ℕ → Type 0
NoReturns p x = (w : ℕ) (l : Letter) (e : ℕ) → Member p.first.backs (first_at p x, w, l, e) → ⊥
