-- Pairs that are added at the end of a search's list.
use Rattle.std.proofs.Common.{◌≡◌, ◌⊎◌, ℕ, zero, suc, List, [], ◌∷◌, ◌++◌, length, Option, None, Some, Bool, true, false, cond, slice_get, refl, sym, ap, subst, inl, inr, eqb, eq-eqb}
use Rattle.nwa_base.specs.declared.letters.Letter.{Letter}
use Rattle.nwa_base.specs.Members.{Member}
use Rattle.nwa_base.specs.Automata.{Automaton}
use Rattle.std.proofs.lemmas.Bool.{false≢true, eqb-true}
use Rattle.nwa_base.proofs.MemberLemmas.{member_front, member_rest, member_split}
use Rattle.nwa_emptiness.specs.declared.search.Link.{Link}
use Rattle.nwa_emptiness.specs.declared.search.Link.TheVariants as links
use Rattle.nwa_emptiness.specs.declared.search.Way.{Way}
use Rattle.nwa_emptiness.specs.Ties.Search.{IsLink, IsCaller, IsWay, AreWays}

pub get_front : {X : Type 0} (xs ys : List X) (i : ℕ) (y : X) → slice_get xs i ≡ Some y → slice_get (xs ++ ys) i ≡ Some y
get_front [] ys i y e = cc
get_front (x ∷ xs) ys zero y e = e
get_front (x ∷ xs) ys (suc i) y e = get_front xs ys i y e

pub get_last : {X : Type 0} (xs : List X) (x : X) → slice_get (xs ++ x ∷ []) (length xs) ≡ Some x
get_last [] x = refl
get_last (z ∷ xs) x = get_last xs x

pub get_push : {X : Type 0} (xs : List X) (x : X) (i : ℕ) (y : X) → slice_get (xs ++ x ∷ []) i ≡ Some y →
    (slice_get xs i ≡ Some y) ⊎ ((i ≡ length xs) × (x ≡ y))
get_push [] x zero y e = let f : Some x ≡ Some y = e in let g : x ≡ y = cc in inr (refl, g)
get_push [] x (suc i) y e = let f : None ≡ Some y = e in cc
get_push (z ∷ xs) x zero y e = inl e
get_push (z ∷ xs) x (suc i) y e = elim (get_push xs x i y e) [ inl h ↦ inl h | inr h ↦ inr (ap suc h.0, h.1) ]

link_stays : (m : Automaton) (pairs more : List (Option ℕ × ℕ)) (k : Option ℕ) (q : ℕ) (l : Link) → IsLink m pairs k q l → IsLink m (pairs ++ more) k q l
link_stays m pairs more k q links.Begin h = h
link_stays m pairs more k q (links.Inside i a) h = (h.0, get_front pairs more i (k, h.0) h.1, h.2)
link_stays m pairs more k q links.Call h = h
link_stays m pairs more k q (links.Back i c j r) h =
    (h.0, h.1, h.2, get_front pairs more i (k, h.0) h.3, h.4, get_front pairs more j (Some h.1, h.2) h.5, h.6)

pub caller_stays : (m : Automaton) (pairs more : List (Option ℕ × ℕ)) (k : Option ℕ) (c : Option (ℕ × Letter)) → IsCaller m pairs k c → IsCaller m (pairs ++ more) k c
caller_stays m pairs more None c h = h
caller_stays m pairs more (Some n) None h = absurd h
caller_stays m pairs more (Some n) (Some (j, c)) h = (h.0, h.1, get_front pairs more j (h.0, h.1) h.2, h.3)

pub way_stays : (m : Automaton) (pairs more : List (Option ℕ × ℕ)) (k : Option ℕ) (q : ℕ) (w : Way) → IsWay m pairs k q w → IsWay m (pairs ++ more) k q w
way_stays m pairs more k q w h = record { link = link_stays m pairs more k q w.link h.link; caller = caller_stays m pairs more k w.caller h.caller }

pub ways_stay : (m : Automaton) (pairs more xs : List (Option ℕ × ℕ)) (ways : List Way) → AreWays m pairs xs ways → AreWays m (pairs ++ more) xs ways
ways_stay m pairs more [] [] h = h
ways_stay m pairs more [] (w ∷ ways) h = absurd h
ways_stay m pairs more (x ∷ xs) [] h = absurd h
ways_stay m pairs more (x ∷ xs) (w ∷ ways) h = (way_stays m pairs more x.0 x.1 w h.0, ways_stay m pairs more xs ways h.1)

ways_more : (m : Automaton) (pairs xs : List (Option ℕ × ℕ)) (x : Option ℕ × ℕ) (ways : List Way) (w : Way) → AreWays m pairs xs ways →
    IsWay m pairs x.0 x.1 w → AreWays m pairs (xs ++ x ∷ []) (ways ++ w ∷ [])
ways_more m pairs [] x [] w h g = (g, tt)
ways_more m pairs [] x (v ∷ ways) w h g = absurd h
ways_more m pairs (y ∷ xs) x [] w h g = absurd h
ways_more m pairs (y ∷ xs) x (v ∷ ways) w h g = (h.0, ways_more m pairs xs x ways w h.1 g)

-- one pair more, and its way
pub ways_push : (m : Automaton) (pairs : List (Option ℕ × ℕ)) (x : Option ℕ × ℕ) (ways : List Way) (w : Way) → AreWays m pairs pairs ways →
    IsWay m pairs x.0 x.1 w → AreWays m (pairs ++ x ∷ []) (pairs ++ x ∷ []) (ways ++ w ∷ [])
ways_push m pairs x ways w h g =
    ways_more m (pairs ++ x ∷ []) pairs x ways w (ways_stay m pairs (x ∷ []) pairs ways h) (way_stays m pairs (x ∷ []) x.0 x.1 w g)

-- what is kept in groups after one value more
abbrev pub GrowsAt : {V : Type 0} → ℕ → V → (ℕ → List V) → (ℕ → List V) → Type 0
GrowsAt key value old new = (k : ℕ) → new k ≡ cond (eqb key k) (old k ++ value ∷ []) (old k)

grown_front : {V : Type 0} (old : List V) (v y : V) (b : Bool) → Member old y → Member (cond b (old ++ v ∷ []) old) y
grown_front old v y true h = member_front old (v ∷ []) y h
grown_front old v y false h = h

grown_last : {V : Type 0} (old : List V) (v : V) (b : Bool) → b ≡ true → Member (cond b (old ++ v ∷ []) old) v
grown_last old v true e = member_rest old (v ∷ []) v (inl refl)
grown_last old v false e = absurd (false≢true e)

grown_split : {V : Type 0} (old : List V) (v y : V) (b : Bool) → Member (cond b (old ++ v ∷ []) old) y → Member old y ⊎ ((b ≡ true) × (v ≡ y))
grown_split old v y true h = elim (member_split old (v ∷ []) y h) [ inl g ↦ inl g | inr g ↦ inr (refl, elim g [ inl e ↦ e | inr e ↦ absurd e ]) ]
grown_split old v y false h = inl h

pub group_front : {V : Type 0} (key : ℕ) (v : V) (old new : ℕ → List V) → GrowsAt key v old new → (k : ℕ) (y : V) → Member (old k) y → Member (new k) y
group_front {V} key v old new g k y h = subst (λ (l : List V). Member l y) (sym (g k)) (grown_front (old k) v y (eqb key k) h)

pub group_last : {V : Type 0} (key : ℕ) (v : V) (old new : ℕ → List V) → GrowsAt key v old new → Member (new key) v
group_last {V} key v old new g =
    subst (λ (l : List V). Member l v) (sym (g key)) (grown_last (old key) v (eqb key key) (eq-eqb key key refl))

pub group_split : {V : Type 0} (key : ℕ) (v : V) (old new : ℕ → List V) → GrowsAt key v old new → (k : ℕ) (y : V) → Member (new k) y →
    Member (old k) y ⊎ ((key ≡ k) × (v ≡ y))
group_split {V} key v old new g k y h =
    elim (grown_split (old k) v y (eqb key k) (subst (λ (l : List V). Member l y) (g k) h)) [
      | inl m ↦ inl m
      | inr e ↦ inr (eqb-true key k e.0, e.1)
    ]
