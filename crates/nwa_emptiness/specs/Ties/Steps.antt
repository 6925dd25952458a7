-- What the steps of a search add, from the pairs that it had found.
use Rattle.std.specs.Prelude.{◌≡◌, ℕ, Option, Some, slice_get}
use Rattle.nwa_base.specs.declared.letters.Letter.{Letter}
use Rattle.nwa_base.specs.Members.{Member}
use Rattle.nwa_emptiness.specs.declared.search.Point.{Point}
use Rattle.nwa_emptiness.specs.Ties.Search.{Searched, Keeps}

-- the call leads from the pair at the place to the entry n
pub record IsCalled (s : Searched) (i : ℕ) (c : Letter) (n : ℕ) : Type 0 where
  pub entry : Option ℕ
  pub before : ℕ
  pub pair : slice_get s.pairs i ≡ Some (entry, before)
  pub edge : Member s.nwa.calls (before, c, n)

-- the pair at the place has the entry n
pub record IsInside (s : Searched) (j n : ℕ) : Type 0 where
  pub state : ℕ
  pub pair : slice_get s.pairs j ≡ Some (Some n, state)

-- the call leads from the state p to the entry of the pair at the place
pub record IsCalledFrom (s : Searched) (p : ℕ) (c : Letter) (j : ℕ) : Type 0 where
  pub entry : ℕ
  pub state : ℕ
  pub edge : Member s.nwa.calls (p, c, entry)
  pub pair : slice_get s.pairs j ≡ Some (Some entry, state)

-- the call leads from the pair at i to the entry of the pair at j
pub record IsJoint (s : Searched) (i : ℕ) (c : Letter) (j : ℕ) : Type 0 where
  pub outer : Option ℕ
  pub before : ℕ
  pub entry : ℕ
  pub state : ℕ
  pub caller : slice_get s.pairs i ≡ Some (outer, before)
  pub edge : Member s.nwa.calls (before, c, entry)
  pub exit : slice_get s.pairs j ≡ Some (Some entry, state)

-- each return from the pair at j, whose call was made from the pair at i, leads to a pair
abbrev pub Joined : Searched → Searched → ℕ → ℕ → Type 0
Joined old new i j = (k : Option ℕ) (p : ℕ) (x : Option ℕ) (q e : ℕ) (r : Letter) → slice_get old.pairs i ≡ Some (k, p) →
    slice_get old.pairs j ≡ Some (x, q) → Member old.nwa.backs (q, p, r, e) → Member new.pairs (k, e)

-- each inside letter leads from the pair to a pair
abbrev pub InsideDone : Searched → Searched → Point → Type 0
InsideDone old new x = (e : ℕ) (a : Letter) → Member old.nwa.insides (x.state, a, e) → Member new.pairs (x.entry, e)

-- each pair with the entry n is joined to the pair at i
abbrev pub ExitsJoined : Searched → Searched → ℕ → ℕ → Type 0
ExitsJoined old new i n = (j q : ℕ) → slice_get old.pairs j ≡ Some (Some n, q) → Joined old new i j

-- each call leads from the pair to a pair, and the pairs inside it are joined to the pair
abbrev pub CallsDone : Searched → Searched → Point → Type 0
CallsDone old new x = (e : ℕ) (c : Letter) → Member old.nwa.calls (x.state, c, e) →
    Member new.pairs (Some e, e) × ExitsJoined old new x.place e

-- the pair at j is joined to each pair of the state p
abbrev pub CallersJoined : Searched → Searched → ℕ → ℕ → Type 0
CallersJoined old new p j = (i : ℕ) (k : Option ℕ) → slice_get old.pairs i ≡ Some (k, p) → Joined old new i j

-- the pair at j is joined to each pair from which a call leads to the entry n
abbrev pub ReturnsDone : Searched → Searched → ℕ → ℕ → Type 0
ReturnsDone old new j n = (p : ℕ) (c : Letter) → Member old.nwa.calls (p, c, n) → CallersJoined old new p j

-- each letter leads from the pair to a pair, and each return leads on from it and from another pair
pub record Expanded (old new : Searched) (x : Point) : Type 0 where
  pub keeps : Keeps old new
  pub inside : InsideDone old new x
  pub calls : CallsDone old new x
  pub returns : (n : ℕ) → x.entry ≡ Some n → ReturnsDone old new x.place n
