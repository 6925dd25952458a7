-- The pairs of a search over the product while it grows: an entry, which is the state after the innermost open call, or None where
-- no call is open, and the present state.
use Rattle.std.specs.Prelude.{◌≡◌, ◌<◌, ◌⊎◌, ℕ, List, ◌++◌, length, Option, Some, Bool, true, false}
use Rattle.nwa_base.specs.declared.letters.Letter.{Letter}
use Rattle.nwa_base.specs.Members.{Member}
use Rattle.nwa_difference.specs.Ties.Making.{Made, IsMade, Extends, HasInsides, HasCalls, HasBacks, NoReturns}

-- The pairs, in the order in which they were found, the entries of a state and the states of an entry that were gone through, the
-- states that have their inside letters and calls, and those that have their returns to a state before the call.
pub record Found : Type 0 where
  pub pairs : List (Option ℕ × ℕ)
  pub callers : ℕ → List (Option ℕ)
  pub exits : ℕ → List ℕ
  pub opened : List ℕ
  pub joined : List (ℕ × ℕ)

-- x is in the list from now on, behind what was there, and nothing else is new
pub record Adds {X : Type 0} (old new : List X) (x : X) : Type 0 where
  pub more : List X
  pub list : new ≡ old ++ more
  pub there : Member new x
  pub only : (y : X) → Member new y → Member old y ⊎ (x ≡ y)

-- x is in the group of the key from now on, and nothing else is new
pub record AddsAt {X : Type 0} (old new : ℕ → List X) (key : ℕ) (x : X) : Type 0 where
  pub there : Member (new key) x
  pub stays : (k : ℕ) (y : X) → Member (old k) y → Member (new k) y
  pub only : (k : ℕ) (y : X) → Member (new k) y → Member (old k) y ⊎ ((key ≡ k) × (x ≡ y))

-- the answer says whether x is new in the list
pub record Tells {X : Type 0} (old : List X) (x : X) (is_new : Bool) : Type 0 where
  pub fresh : is_new ≡ true → Member old x → ⊥
  pub known : is_new ≡ false → Member old x

-- a product and the pairs that were found in it
pub record Stage : Type 0 where
  pub product : Made
  pub found : Found

-- the product is right, all are states of it, and those that are named as having their edges have them
pub record IsStage (s : Stage) : Type 0 where
  pub made : IsMade s.product
  pub pairs : (x : Option ℕ × ℕ) → Member s.found.pairs x → x.1 < length s.product.states
  pub callers : (p : ℕ) (k : Option ℕ) → Member (s.found.callers p) k → p < length s.product.states
  pub exits : (n x : ℕ) → Member (s.found.exits n) x → x < length s.product.states
  pub opened : (x : ℕ) → Member s.found.opened x → (x < length s.product.states) × HasInsides s.product x × HasCalls s.product x
  pub joined : (x : ℕ × ℕ) → Member s.found.joined x →
      (x.0 < length s.product.states) × (x.1 < length s.product.states) × HasBacks s.product x.0 x.1

-- the search went on: more pairs stand behind those that stood there, and no edge is new that leaves a state that had its edges
pub record Goes (old new : Stage) : Type 0 where
  pub stage : IsStage new
  pub product : Extends old.product new.product (λ x. Member old.found.opened x → ⊥) (λ x p. Member old.found.joined (x, p) → ⊥)
  pub more : List (Option ℕ × ℕ)
  pub pairs : new.found.pairs ≡ old.found.pairs ++ more
  pub callers : (p : ℕ) (k : Option ℕ) → Member (old.found.callers p) k → Member (new.found.callers p) k
  pub exits : (n x : ℕ) → Member (old.found.exits n) x → Member (new.found.exits n) x
  pub opened : (x : ℕ) → Member old.found.opened x → Member new.found.opened x
  pub joined : (x : ℕ × ℕ) → Member old.found.joined x → Member new.found.joined x

-- each inside letter leads from the pair to a pair, and x gets no more of them
abbrev pub InsidesFollowed : Stage → Option ℕ → ℕ → Type 0
InsidesFollowed s k x = Member s.found.opened x × ((l : Letter) (y : ℕ) → Member s.product.product.insides (x, l, y) → Member s.found.pairs (k, y))

-- each call leads from x to a pair, and x gets no more of them
abbrev pub CallsFollowed : Stage → ℕ → Type 0
CallsFollowed s x = Member s.found.opened x × ((l : Letter) (y : ℕ) → Member s.product.product.calls (x, l, y) → Member s.found.pairs (Some y, y))

-- x gets no more returns to the state p before the call
abbrev pub IsJoined : Stage → ℕ → ℕ → Type 0
IsJoined s x p = Member s.found.joined (x, p) ⊎ ((x < length s.product.states) × NoReturns s.product x)

-- each return from x, where p was the state before the call, leads from the pair of k and p to a pair, and x gets no more of them
abbrev pub BacksFollowed : Stage → Option ℕ → ℕ → ℕ → Type 0
BacksFollowed s k p x = IsJoined s x p × ((l : Letter) (y : ℕ) → Member s.product.product.backs (x, p, l, y) → Member s.found.pairs (k, y))

-- the exits of the entry n, as they were, return to the pair of k and p
abbrev pub ExitsFollowed : Stage → Stage → Option ℕ → ℕ → ℕ → Type 0
ExitsFollowed old new k p n = (q : ℕ) → Member (old.found.exits n) q → BacksFollowed new k p q

-- x returns to each pair of the state p, as they were
abbrev pub CallersFollowed : Stage → Stage → ℕ → ℕ → Type 0
CallersFollowed old new p x = (j : Option ℕ) → Member (old.found.callers p) j → BacksFollowed new j p x

-- the call to n leads from the pair to a pair, and the exits inside it return to the pair
pub record CallDone (old new : Stage) (k : Option ℕ) (x n : ℕ) : Type 0 where
  pub goes : Goes old new
  pub there : Member new.found.pairs (Some n, n)
  pub exits : ExitsFollowed old new k x n

-- each call leads from the pair to a pair, and the exits inside them return to the pair
pub record CallsDone (old new : Stage) (k : Option ℕ) (x : ℕ) : Type 0 where
  pub goes : Goes old new
  pub calls : CallsFollowed new x
  pub exits : (l : Letter) (n : ℕ) → Member new.product.product.calls (x, l, n) → ExitsFollowed old new k x n

-- x returns to each pair from which a call leads to the entry n
pub record ReturnsDone (old new : Stage) (n x : ℕ) : Type 0 where
  pub goes : Goes old new
  pub callers : (p : ℕ) (l : Letter) → Member old.product.product.calls (p, l, n) → CallersFollowed old new p x

-- x is an exit of the entry n from now on, if it has returns, and returns to each pair from which a call leads to n
pub record ExitDone (old new : Stage) (n x : ℕ) : Type 0 where
  pub goes : Goes old new
  pub exit : NoReturns new.product x ⊎ Member (new.found.exits n) x
  pub callers : (p : ℕ) (l : Letter) → Member old.product.product.calls (p, l, n) → CallersFollowed old new p x

-- the pair of j and p was gone through before the pair of k and x, or is this pair
abbrev pub WasBefore : Stage → Option ℕ → ℕ → Option ℕ → ℕ → Type 0
WasBefore s k x j p = (Member (s.found.callers p) j × Member s.found.opened p) ⊎ ((k ≡ j) × (x ≡ p))

-- each letter leads from the pair to a pair, and each return leads on from it and from another pair
pub record Expanded (old new : Stage) (k : Option ℕ) (x : ℕ) : Type 0 where
  pub goes : Goes old new
  pub insides : InsidesFollowed new k x
  pub calls : CallsFollowed new x
  pub caller : Member (new.found.callers x) k
  pub exit : (n : ℕ) → k ≡ Some n → NoReturns new.product x ⊎ Member (new.found.exits n) x
  pub exits : (l : Letter) (n : ℕ) → Member new.product.product.calls (x, l, n) → ExitsFollowed old new k x n
  pub callers : (n p : ℕ) (l : Letter) (j : Option ℕ) → k ≡ Some n → Member new.product.product.calls (p, l, n) → WasBefore old k x j p →
      BacksFollowed new j p x
