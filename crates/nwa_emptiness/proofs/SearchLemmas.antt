-- What a search keeps, when a pair is added.
use Rattle.std.proofs.Common.{◌≡◌, ◌<◌, ◌≤◌, ◌∙◌, ◌⊎◌, ◌+◌, ℕ, zero, suc, List, [], ◌∷◌, ◌++◌, length, Option, None, Some, Bool, true, false, cond, slice_get, refl, sym, ap, subst, inl, inr, arith, length-append, append_assoc, append-nil, eqb, ◌&&◌}
use Rattle.std.specs.Option.{option_eq}
use Rattle.std.proofs.lemmas.Bool.{eqb-true}
use Rattle.nwa_base.proofs.LetterLemmas.{and_left, and_right}
use Rattle.nwa_base.specs.Members.{Member}
use Rattle.nwa_base.specs.Automata.{Automaton, IsAutomaton}
use Rattle.nwa_base.proofs.MemberLemmas.{member_front, member_rest}
use Rattle.nwa_base.specs.declared.letters.Letter.{Letter}
use Rattle.nwa_emptiness.specs.declared.search.Link.{Link}
use Rattle.nwa_emptiness.specs.declared.search.Link.TheVariants as links
use Rattle.nwa_emptiness.specs.declared.search.Way.{Way}
use Rattle.nwa_emptiness.specs.Ties.Search.{Searched, IsLink, IsCaller, IsWay, LinkLeadsBack, CallerLeadsBack, LeadsBack, AreWays, IsSearch, Keeps}
use Rattle.nwa_emptiness.proofs.PlaceLemmas.{get_front, get_last, get_push, ways_push, GrowsAt, group_front, group_last, group_split}

pub get_within : {X : Type 0} (xs : List X) (i : ℕ) (x : X) → slice_get xs i ≡ Some x → i < length xs
get_within [] i x e = let f : None ≡ Some x = e in cc
get_within (y ∷ xs) zero x e = omega arith
get_within (y ∷ xs) (suc i) x e = let r = get_within xs i x e in omega arith

-- a pair stands behind those from which it was found
link_back : (m : Automaton) (pairs : List (Option ℕ × ℕ)) (k : Option ℕ) (q : ℕ) (l : Link) → IsLink m pairs k q l → LinkLeadsBack (length pairs) l
link_back m pairs k q links.Begin h = tt
link_back m pairs k q (links.Inside i a) h = get_within pairs i (k, h.0) h.1
link_back m pairs k q links.Call h = tt
link_back m pairs k q (links.Back i c j r) h = (get_within pairs i (k, h.0) h.3, get_within pairs j (Some h.1, h.2) h.5)

caller_back : (m : Automaton) (pairs : List (Option ℕ × ℕ)) (k : Option ℕ) (c : Option (ℕ × Letter)) → IsCaller m pairs k c → CallerLeadsBack (length pairs) c
caller_back m pairs None c h = subst (CallerLeadsBack (length pairs)) (sym h) tt
caller_back m pairs (Some n) None h = absurd h
caller_back m pairs (Some n) (Some (j, c)) h = get_within pairs j (h.0, h.1) h.2

as_many : (m : Automaton) (all xs : List (Option ℕ × ℕ)) (ways : List Way) → AreWays m all xs ways → length ways ≡ length xs
as_many m all [] [] h = refl
as_many m all [] (w ∷ ways) h = absurd h
as_many m all (x ∷ xs) [] h = absurd h
as_many m all (x ∷ xs) (w ∷ ways) h = ap suc (as_many m all xs ways h.1)

no_way : (ways : List Way) (i : ℕ) (w : Way) → ways ≡ [] → slice_get ways i ≡ Some w → ⊥
no_way ways i w e h = let f : None ≡ Some w = subst (λ (l : List Way). slice_get l i ≡ Some w) e h in cc

no_pair : (i : ℕ) (x : Option ℕ × ℕ) → slice_get [] i ≡ Some x → ⊥
no_pair i x e = let f : None ≡ Some x = e in cc

no_pair_of : (pairs : List (Option ℕ × ℕ)) (i : ℕ) (x : Option ℕ × ℕ) → pairs ≡ [] → slice_get pairs i ≡ Some x → ⊥
no_pair_of pairs i x e h = no_pair i x (subst (λ (l : List (Option ℕ × ℕ)). slice_get l i ≡ Some x) e h)

none_of : (xs : List ℕ) (i : ℕ) → xs ≡ [] → Member xs i → ⊥
none_of xs i e h = subst (λ (l : List ℕ). Member l i) e h

no_ways : (m : Automaton) (pairs : List (Option ℕ × ℕ)) (ways : List Way) → pairs ≡ [] → ways ≡ [] → AreWays m pairs pairs ways
no_ways m pairs ways p w =
    subst (λ (l : List (Option ℕ × ℕ)). AreWays m l l ways) (sym p) (subst (λ (l : List Way). AreWays m [] [] l) (sym w) tt)

-- nothing is found
pub search_none : (s : Searched) → IsAutomaton s.nwa → s.pairs ≡ [] → s.ways ≡ [] → ((q : ℕ) → s.by_state q ≡ []) → ((n : ℕ) → s.by_entry n ≡ []) → IsSearch s
search_none s v p w f g = record {
  automaton = v;
  ways = no_ways s.nwa s.pairs s.ways p w;
  back = λ i v h. absurd (no_way s.ways i v w h);
  state = λ i k q h. absurd (no_pair_of s.pairs i (k, q) p h);
  is_state = λ i q h. absurd (none_of (s.by_state q) i (f q) h);
  entry = λ i n q h. absurd (no_pair_of s.pairs i (Some n, q) p h);
  is_entry = λ i n h. absurd (none_of (s.by_entry n) i (g n) h);
}

grown_ways : (m n : Automaton) (pairs new : List (Option ℕ × ℕ)) (x : Option ℕ × ℕ) (ways ways' : List Way) (w : Way) →
    AreWays m pairs pairs ways → IsWay m pairs x.0 x.1 w → n ≡ m → new ≡ pairs ++ x ∷ [] → ways' ≡ ways ++ w ∷ [] → AreWays n new new ways'
grown_ways m n pairs new x ways ways' w h g a p u =
    subst (λ (z : Automaton). AreWays z new new ways') (sym a)
    (subst (λ (l : List (Option ℕ × ℕ)). AreWays m l l ways') (sym p)
    (subst (λ (l : List Way). AreWays m (pairs ++ x ∷ []) (pairs ++ x ∷ []) l) (sym u) (ways_push m pairs x ways w h g)))

-- what is at a place after one pair more
get_more : (pairs new : List (Option ℕ × ℕ)) (x y : Option ℕ × ℕ) (i : ℕ) → new ≡ pairs ++ x ∷ [] → slice_get new i ≡ Some y →
    (slice_get pairs i ≡ Some y) ⊎ ((i ≡ length pairs) × (x ≡ y))
get_more pairs new x y i e h = get_push pairs x i y (subst (λ (l : List (Option ℕ × ℕ)). slice_get l i ≡ Some y) e h)

get_old : (pairs new : List (Option ℕ × ℕ)) (x y : Option ℕ × ℕ) (i : ℕ) → new ≡ pairs ++ x ∷ [] → slice_get pairs i ≡ Some y → slice_get new i ≡ Some y
get_old pairs new x y i e h = subst (λ (l : List (Option ℕ × ℕ)). slice_get l i ≡ Some y) (sym e) (get_front pairs (x ∷ []) i y h)

get_new : (pairs new : List (Option ℕ × ℕ)) (x : Option ℕ × ℕ) (i : ℕ) → new ≡ pairs ++ x ∷ [] → length pairs ≡ i → slice_get new i ≡ Some x
get_new pairs new x i e h =
    subst (λ (l : List (Option ℕ × ℕ)). slice_get l i ≡ Some x) (sym e)
    (subst (λ (n : ℕ). slice_get (pairs ++ x ∷ []) n ≡ Some x) h (get_last pairs x))

state_there : (old new : ℕ → List ℕ) (q place i r : ℕ) → GrowsAt q place old new → i ≡ place → q ≡ r → Member (new r) i
state_there old new q place i r g e f =
    subst (λ (z : ℕ). Member (new z) i) f (subst (λ (z : ℕ). Member (new q) z) (sym e) (group_last q place old new g))

-- the places of an entry after one place more, or none
abbrev pub EntryGrows : Option ℕ → ℕ → (ℕ → List ℕ) → (ℕ → List ℕ) → Type 0
EntryGrows None place old new = (n : ℕ) → new n ≡ old n
EntryGrows (Some n) place old new = GrowsAt n place old new

entry_front : (k : Option ℕ) (place : ℕ) (old new : ℕ → List ℕ) → EntryGrows k place old new → (n i : ℕ) → Member (old n) i → Member (new n) i
entry_front None place old new g n i h = subst (λ (l : List ℕ). Member l i) (sym (g n)) h
entry_front (Some m) place old new g n i h = group_front m place old new g n i h

entry_there : (k : Option ℕ) (place : ℕ) (old new : ℕ → List ℕ) → EntryGrows k place old new → (n i : ℕ) → i ≡ place → k ≡ Some n → Member (new n) i
entry_there None place old new g n i e f = cc
entry_there (Some m) place old new g n i e f = let f' : m ≡ n = cc in state_there old new m place i n g e f'

entry_split : (k : Option ℕ) (place : ℕ) (old new : ℕ → List ℕ) → EntryGrows k place old new → (n i : ℕ) → Member (new n) i →
    Member (old n) i ⊎ ((k ≡ Some n) × (place ≡ i))
entry_split None place old new g n i h = inl (subst (λ (l : List ℕ). Member l i) (g n) h)
entry_split (Some m) place old new g n i h =
    elim (group_split m place old new g n i h) [ inl a ↦ inl a | inr b ↦ inr (ap (λ (z : ℕ). Some z) b.0, b.1) ]

-- one pair more
pub search_push : (old new : Searched) (k : Option ℕ) (q : ℕ) (w : Way) → IsSearch old → IsWay old.nwa old.pairs k q w → new.nwa ≡ old.nwa →
    new.pairs ≡ old.pairs ++ (k, q) ∷ [] → new.ways ≡ old.ways ++ w ∷ [] → GrowsAt q (length old.pairs) old.by_state new.by_state →
    EntryGrows k (length old.pairs) old.by_entry new.by_entry → IsSearch new
search_push old new k q w s g a p u f e = record {
  automaton = subst IsAutomaton (sym a) s.automaton;
  ways = grown_ways old.nwa new.nwa old.pairs new.pairs (k, q) old.ways new.ways w s.ways g a p u;
  back = λ i v h.
      elim (get_push old.ways w i v (subst (λ (l : List Way). slice_get l i ≡ Some v) u h)) [
        | inl o ↦ s.back i v o
        | inr n ↦
            let here : length old.pairs ≡ i = sym (n.0 ∙ as_many old.nwa old.pairs old.pairs old.ways s.ways) in
            let last : LeadsBack (length old.pairs) w = record { link = link_back old.nwa old.pairs k q w.link g.link; caller = caller_back old.nwa old.pairs k w.caller g.caller } in
            subst (λ (z : ℕ). LeadsBack z v) here (subst (LeadsBack (length old.pairs)) n.1 last)
      ];
  state = λ i j r h.
      elim (get_more old.pairs new.pairs (k, q) (j, r) i p h) [
        | inl o ↦ group_front q (length old.pairs) old.by_state new.by_state f r i (s.state i j r o)
        | inr n ↦ state_there old.by_state new.by_state q (length old.pairs) i r f n.0 (ap (λ (z : Option ℕ × ℕ). z.1) n.1)
      ];
  is_state = λ i r h.
      elim (group_split q (length old.pairs) old.by_state new.by_state f r i h) [
        | inl o ↦ let x = s.is_state i r o in (x.0, get_old old.pairs new.pairs (k, q) (x.0, r) i p x.1)
        | inr n ↦ (k, subst (λ (z : ℕ). slice_get new.pairs i ≡ Some (k, z)) n.0 (get_new old.pairs new.pairs (k, q) i p n.1))
      ];
  entry = λ i n r h.
      elim (get_more old.pairs new.pairs (k, q) (Some n, r) i p h) [
        | inl o ↦ entry_front k (length old.pairs) old.by_entry new.by_entry e n i (s.entry i n r o)
        | inr x ↦ entry_there k (length old.pairs) old.by_entry new.by_entry e n i x.0 (ap (λ (z : Option ℕ × ℕ). z.0) x.1)
      ];
  is_entry = λ i n h.
      elim (entry_split k (length old.pairs) old.by_entry new.by_entry e n i h) [
        | inl o ↦ let x = s.is_entry i n o in (x.0, get_old old.pairs new.pairs (k, q) (Some n, x.0) i p x.1)
        | inr x ↦ (q, subst (λ (z : Option ℕ). slice_get new.pairs i ≡ Some (z, q)) x.0 (get_new old.pairs new.pairs (k, q) i p x.1))
      ];
}

pub member_pushed : (pairs new : List (Option ℕ × ℕ)) (x : Option ℕ × ℕ) → new ≡ pairs ++ x ∷ [] → Member new x
member_pushed pairs new x e = subst (λ (l : List (Option ℕ × ℕ)). Member l x) (sym e) (member_rest pairs (x ∷ []) x (inl refl))

pub added : (old new : Searched) (k : Option ℕ) (q place : ℕ) (w : Way) → IsSearch old → IsWay old.nwa old.pairs k q w → new.nwa ≡ old.nwa →
    new.pairs ≡ old.pairs ++ (k, q) ∷ [] → new.ways ≡ old.ways ++ w ∷ [] → place ≡ length old.pairs → GrowsAt q place old.by_state new.by_state →
    EntryGrows k place old.by_entry new.by_entry → Keeps old new × Member new.pairs (k, q)
added old new k q place w s g a p u l f e = (
  record {
    search =
        search_push old new k q w s g a p u (subst (λ (z : ℕ). GrowsAt q z old.by_state new.by_state) l f)
        (subst (λ (z : ℕ). EntryGrows k z old.by_entry new.by_entry) l e);
    nwa = a;
    more = (k, q) ∷ [];
    pairs = p;
  },
  member_pushed old.pairs new.pairs (k, q) p,
)

pub entry_none : (k : Option ℕ) (place : ℕ) (old : ℕ → List ℕ) → k ≡ None → EntryGrows k place old old
entry_none k place old e = subst (λ (z : Option ℕ). EntryGrows z place old old) (sym e) (λ n. refl)

pub entry_some : (k : Option ℕ) (n place : ℕ) (old new : ℕ → List ℕ) → k ≡ Some n → GrowsAt n place old new → EntryGrows k place old new
entry_some k n place old new e g = subst (λ (z : Option ℕ). EntryGrows z place old new) (sym e) g

pub keeps_none : (s : Searched) → IsSearch s → Keeps s s
keeps_none s v = record { search = v; nwa = refl; more = []; pairs = sym (append-nil s.pairs) }

pub keeps_on : (a b c : Searched) → Keeps a b → Keeps b c → Keeps a c
keeps_on a b c g h = record {
  search = h.search;
  nwa = h.nwa ∙ g.nwa;
  more = g.more ++ h.more;
  pairs = h.pairs ∙ ap (λ (l : List (Option ℕ × ℕ)). l ++ h.more) g.pairs ∙ append_assoc a.pairs g.more h.more;
}

pub member_kept : (a b : Searched) (x : Option ℕ × ℕ) → Keeps a b → Member a.pairs x → Member b.pairs x
member_kept a b x g h = subst (λ (l : List (Option ℕ × ℕ)). Member l x) (sym g.pairs) (member_front a.pairs g.more x h)

pub get_kept : (a b : Searched) (i : ℕ) (x : Option ℕ × ℕ) → Keeps a b → slice_get a.pairs i ≡ Some x → slice_get b.pairs i ≡ Some x
get_kept a b i x g h = subst (λ (l : List (Option ℕ × ℕ)). slice_get l i ≡ Some x) (sym g.pairs) (get_front a.pairs g.more i x h)

-- a pair that was there already
is_old : {X : Type 0} (b : Bool) (old new : List X) (x : X) → new ≡ cond b old (old ++ x ∷ []) → length new ≡ length old → new ≡ old
is_old true old new x e l = e
is_old false old new x e l = absurd (let f = ap length e in omega (arith, length-append old (x ∷ [])))

is_more : {X : Type 0} (b : Bool) (old new : List X) (x : X) → new ≡ cond b old (old ++ x ∷ []) → length new ≡ length old + 1 → new ≡ old ++ x ∷ []
is_more true old new x e l = absurd (let f = ap length e in omega arith)
is_more false old new x e l = e

pub not_new : {X : Type 0} (b c : Bool) (old new : List X) (x : X) → new ≡ cond b old (old ++ x ∷ []) → length new ≡ length old + cond c 1 0 → c ≡ false → new ≡ old
not_new b true old new x e l f = cc
not_new b false old new x e l f = is_old b old new x e (let g : length new ≡ length old + 0 = l in omega arith)

pub is_new : {X : Type 0} (b c : Bool) (old new : List X) (x : X) → new ≡ cond b old (old ++ x ∷ []) → length new ≡ length old + cond c 1 0 → c ≡ true → new ≡ old ++ x ∷ []
is_new b true old new x e l f = is_more b old new x e l
is_new b false old new x e l f = cc

-- the test of pairs
same_entry : (a b : Option ℕ) → option_eq eqb a b ≡ true → a ≡ b
same_entry None None e = refl
same_entry None (Some y) e = let f : false ≡ true = e in cc
same_entry (Some x) None e = let f : false ≡ true = e in cc
same_entry (Some x) (Some y) e = ap (λ (z : ℕ). Some z) (eqb-true x y e)

same_pair : (x y : Option ℕ × ℕ) → option_eq eqb x.0 y.0 && eqb x.1 y.1 ≡ true → x ≡ y
same_pair x y h =
    let i : x.0 ≡ y.0 = same_entry _ _ (and_left _ _ h) in
    let j : x.1 ≡ y.1 = eqb-true _ _ (and_right _ _ h) in
    λ n. (i n, j n)

member_get : {X : Type 0} (xs : List X) (i : ℕ) (x : X) → slice_get xs i ≡ Some x → Member xs x
member_get [] i x e = let f : None ≡ Some x = e in cc
member_get (y ∷ xs) zero x e = let f : Some y ≡ Some x = e in let g : y ≡ x = cc in inl g
member_get (y ∷ xs) (suc i) x e = inr (member_get xs i x e)

pub member_stored : {X : Type 0} (xs : List X) (i : ℕ) (x y : X) → slice_get xs i ≡ Some y → x ≡ y → Member xs x
member_stored {X} xs i x y e f = subst (λ (z : X). Member xs z) (sym f) (member_get xs i y e)

-- the pair was there already
pub was_there : (old : Searched) (pairs : List (Option ℕ × ℕ)) (k : Option ℕ) (q i : ℕ) (y : Option ℕ × ℕ) → IsSearch old → pairs ≡ old.pairs →
    slice_get pairs i ≡ Some y → option_eq eqb k y.0 && eqb q y.1 ≡ true → Keeps old (record old { pairs = pairs }) × Member pairs (k, q)
was_there old pairs k q i y s e f t = (
  subst (λ (l : List (Option ℕ × ℕ)). Keeps old (record old { pairs = l })) (sym e) (keeps_none old s),
  member_stored pairs i (k, q) y f (same_pair (k, q) y t),
)

pub get_member : {X : Type 0} (xs : List X) (x : X) → Member xs x → (i : ℕ) × (slice_get xs i ≡ Some x)
get_member [] x h = absurd h
get_member (y ∷ xs) x (inl e) = (0, ap (λ z. Some z) e)
get_member (y ∷ xs) x (inr h) = let r = get_member xs x h in (suc r.0, r.1)

pub past : {X : Type 0} (xs : List X) (i : ℕ) (x : X) → length xs ≤ i → slice_get xs i ≡ Some x → ⊥
past xs i x l e = let r = get_within xs i x e in omega arith

-- the way at a place
pub way_at : (m : Automaton) (all xs : List (Option ℕ × ℕ)) (ways : List Way) (i : ℕ) (x : Option ℕ × ℕ) (w : Way) → AreWays m all xs ways →
    slice_get xs i ≡ Some x → slice_get ways i ≡ Some w → IsWay m all x.0 x.1 w
way_at m all [] [] i x w h e f = let g : None ≡ Some x = e in cc
way_at m all [] (v ∷ ways) i x w h e f = absurd h
way_at m all (y ∷ xs) [] i x w h e f = absurd h
way_at m all (y ∷ xs) (v ∷ ways) zero x w h e f =
    let g : Some y ≡ Some x = e in let k : y ≡ x = cc in let o : Some v ≡ Some w = f in let p : v ≡ w = cc in
    subst (λ (z : Option ℕ × ℕ). IsWay m all z.0 z.1 w) k (subst (λ (z : Way). IsWay m all y.0 y.1 z) p h.0)
way_at m all (y ∷ xs) (v ∷ ways) (suc i) x w h e f = way_at m all xs ways i x w h.1 e f

-- past the ways there are no pairs
pub no_way_at : (m : Automaton) (all xs : List (Option ℕ × ℕ)) (ways : List Way) (i : ℕ) → AreWays m all xs ways →
    slice_get ways i ≡ None → length xs ≤ i
no_way_at m all [] [] i h e = omega arith
no_way_at m all [] (v ∷ ways) i h e = absurd h
no_way_at m all (y ∷ xs) [] i h e = absurd h
no_way_at m all (y ∷ xs) (v ∷ ways) zero h e = let f : Some v ≡ None = e in cc
no_way_at m all (y ∷ xs) (v ∷ ways) (suc i) h e = let r = no_way_at m all xs ways i h.1 e in omega arith
