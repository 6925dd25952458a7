-- What a search keeps: the pairs that it found, in order, and how it found each.
use Rattle.std.specs.Prelude.{◌≡◌, ◌<◌, ℕ, List, [], ◌∷◌, ◌++◌, Option, None, Some, slice_get}
use Rattle.nwa_base.specs.declared.letters.Letter.{Letter}
use Rattle.nwa_base.specs.Members.{Member}
use Rattle.nwa_base.specs.Automata.{Automaton, IsAutomaton}
use Rattle.nwa_emptiness.specs.declared.search.Link.{Link}
use Rattle.nwa_emptiness.specs.declared.search.Link.TheVariants as links
use Rattle.nwa_emptiness.specs.declared.search.Way.{Way}
use Rattle.nwa_emptiness.specs.declared.search.Point.{Point}

-- the automaton, the pairs of an entry, or none, and a state, how each was found, and the places of a state and of an entry
pub record Searched : Type 0 where
  pub nwa : Automaton
  pub pairs : List (Option ℕ × ℕ)
  pub ways : List Way
  pub by_state : ℕ → List ℕ
  pub by_entry : ℕ → List ℕ

-- how the pair (k, q) was found, from pairs of the list
abbrev pub IsLink : Automaton → List (Option ℕ × ℕ) → Option ℕ → ℕ → Link → Type 0
IsLink m pairs k q links.Begin = (k ≡ None) × (q ≡ m.start)
IsLink m pairs k q (links.Inside i a) = (r : ℕ) × (slice_get pairs i ≡ Some (k, r)) × Member m.insides (r, a, q)
IsLink m pairs k q links.Call = k ≡ Some q
IsLink m pairs k q (links.Back i c j r) =
    (p : ℕ) × (n : ℕ) × (x : ℕ) × (slice_get pairs i ≡ Some (k, p)) × Member m.calls (p, c, n) ×
    (slice_get pairs j ≡ Some (Some n, x)) × Member m.backs (x, p, r, q)

-- the entry k was entered by a call from a pair of the list
abbrev pub IsCaller : Automaton → List (Option ℕ × ℕ) → Option ℕ → Option (ℕ × Letter) → Type 0
IsCaller m pairs None caller = caller ≡ None
IsCaller m pairs (Some n) None = ⊥
IsCaller m pairs (Some n) (Some (j, c)) = (k : Option ℕ) × (p : ℕ) × (slice_get pairs j ≡ Some (k, p)) × Member m.calls (p, c, n)

-- the pair (k, q) was found in this way
pub record IsWay (m : Automaton) (pairs : List (Option ℕ × ℕ)) (k : Option ℕ) (q : ℕ) (way : Way) : Type 0 where
  pub link : IsLink m pairs k q way.link
  pub caller : IsCaller m pairs k way.caller

-- the pairs from which the link leads stand before the place i
abbrev pub LinkLeadsBack : ℕ → Link → Type 0
LinkLeadsBack i links.Begin = Unit {0}
LinkLeadsBack i (links.Inside j a) = j < i
LinkLeadsBack i links.Call = Unit {0}
LinkLeadsBack i (links.Back j c x r) = (j < i) × (x < i)

-- so does the pair from which the call is made, if there is one
abbrev pub CallerLeadsBack : ℕ → Option (ℕ × Letter) → Type 0
CallerLeadsBack i None = Unit {0}
CallerLeadsBack i (Some (j, c)) = j < i

-- a pair at the place i is found from pairs before it
pub record LeadsBack (i : ℕ) (way : Way) : Type 0 where
  pub link : LinkLeadsBack i way.link
  pub caller : CallerLeadsBack i way.caller

-- each of these pairs was found in the way at its place
abbrev pub AreWays : Automaton → List (Option ℕ × ℕ) → List (Option ℕ × ℕ) → List Way → Type 0
AreWays m pairs [] [] = Unit {0}
AreWays m pairs [] (w ∷ ways) = ⊥
AreWays m pairs (x ∷ xs) [] = ⊥
AreWays m pairs (x ∷ xs) (w ∷ ways) = IsWay m pairs x.0 x.1 w × AreWays m pairs xs ways

-- each pair was found in the way at its place, from pairs before it, and the places are found by state and by entry
pub record IsSearch (s : Searched) : Type 0 where
  pub automaton : IsAutomaton s.nwa
  pub ways : AreWays s.nwa s.pairs s.pairs s.ways
  pub back : (i : ℕ) (w : Way) → slice_get s.ways i ≡ Some w → LeadsBack i w
  pub state : (i : ℕ) (k : Option ℕ) (q : ℕ) → slice_get s.pairs i ≡ Some (k, q) → Member (s.by_state q) i
  pub is_state : (i q : ℕ) → Member (s.by_state q) i → (k : Option ℕ) × (slice_get s.pairs i ≡ Some (k, q))
  pub entry : (i n q : ℕ) → slice_get s.pairs i ≡ Some (Some n, q) → Member (s.by_entry n) i
  pub is_entry : (i n : ℕ) → Member (s.by_entry n) i → (q : ℕ) × (slice_get s.pairs i ≡ Some (Some n, q))

-- the pair stands at its place, and its entry was entered by its call
pub record IsPoint (s : Searched) (p : Point) : Type 0 where
  pub pair : slice_get s.pairs p.place ≡ Some (p.entry, p.state)
  pub caller : IsCaller s.nwa s.pairs p.entry p.caller

-- the search went on: more pairs stand behind those that stood there
pub record Keeps (old new : Searched) : Type 0 where
  pub search : IsSearch new
  pub nwa : new.nwa ≡ old.nwa
  pub more : List (Option ℕ × ℕ)
  pub pairs : new.pairs ≡ old.pairs ++ more
