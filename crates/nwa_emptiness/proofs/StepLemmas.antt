-- Steps of a search, one after another.
use Rattle.std.proofs.Common.{◌≡◌, ◌∙◌, ℕ, ◌<◌, ◌≤◌, ◌+◌, List, [], ◌∷◌, ◌++◌, length, Option, Some, ◌&&◌, slice_get, refl, sym, ap, subst, inl, inr, eqb, eq-eqb, get_or, take}
use Rattle.std.proofs.lemmas.Bool.{eqb-true}
use Rattle.std.proofs.lemmas.List.{take_more, take_all}
use Rattle.nwa_base.specs.declared.letters.Letter.{Letter}
use Rattle.nwa_base.specs.Members.{Member}
use Rattle.nwa_base.specs.Automata.{Automaton}
use Rattle.nwa_base.specs.Edges.{leaving, entering, backs_between}
use Rattle.nwa_base.proofs.LetterLemmas.{and_left, and_right, and_both}
use Rattle.nwa_base.proofs.MemberLemmas.{member_filter, filter_member, member_split}
use Rattle.nwa_emptiness.specs.declared.search.Link.TheVariants as links
use Rattle.nwa_emptiness.specs.declared.search.Point.{Point}
use Rattle.nwa_emptiness.specs.Ties.Search.{Searched, IsCaller, IsWay, IsSearch, IsPoint, Keeps}
use Rattle.nwa_emptiness.specs.Ties.Steps.{IsCalled, IsInside, IsCalledFrom, IsJoint, Joined}
use Rattle.nwa_emptiness.proofs.PlaceLemmas.{caller_stays}
use Rattle.nwa_emptiness.proofs.SearchLemmas.{keeps_none, keeps_on, member_kept, get_kept, past}

-- what each of the first elements of a list was made to meet
abbrev pub Each : {X : Type 0} → List X → (X → Type 0) → Type 0
Each {X} xs P = (x : X) → Member xs x → P x

pub each_none : {X : Type 0} (P : X → Type 0) → Each [] P
each_none P x h = absurd h

pub each_more : {X : Type 0} (xs : List X) (y : X) (P Q : X → Type 0) → Each xs P → ((x : X) → P x → Q x) → Q y → Each (xs ++ y ∷ []) Q
each_more xs y P Q h f g x m = elim (member_split xs (y ∷ []) x m) [ inl a ↦ f x (h x a) | inr b ↦ elim b [ inl e ↦ subst Q e g | inr n ↦ absurd n ] ]

-- edges that leave a state
pub leaves : (q : ℕ) (edges : List (ℕ × Letter × ℕ)) (e : ℕ × Letter × ℕ) → Member (leaving q edges) e → Member edges (q, e.1, e.2)
leaves q edges e h =
    let r = filter_member (λ (x : ℕ × Letter × ℕ). eqb x.0 q) edges e h in
    subst (λ (z : ℕ). Member edges (z, e.1, e.2)) (eqb-true e.0 q r.1) r.0

pub does_leave : (q : ℕ) (edges : List (ℕ × Letter × ℕ)) (a : Letter) (e : ℕ) → Member edges (q, a, e) → Member (leaving q edges) (q, a, e)
does_leave q edges a e h = member_filter (λ (x : ℕ × Letter × ℕ). eqb x.0 q) edges (q, a, e) h (eq-eqb q q refl)

pub enters : (n : ℕ) (edges : List (ℕ × Letter × ℕ)) (e : ℕ × Letter × ℕ) → Member (entering n edges) e → Member edges (e.0, e.1, n)
enters n edges e h =
    let r = filter_member (λ (x : ℕ × Letter × ℕ). eqb x.2 n) edges e h in
    subst (λ (z : ℕ). Member edges (e.0, e.1, z)) (eqb-true e.2 n r.1) r.0

pub does_enter : (n : ℕ) (edges : List (ℕ × Letter × ℕ)) (p : ℕ) (a : Letter) → Member edges (p, a, n) → Member (entering n edges) (p, a, n)
does_enter n edges p a h = member_filter (λ (x : ℕ × Letter × ℕ). eqb x.2 n) edges (p, a, n) h (eq-eqb n n refl)

pub goes_between : (q p : ℕ) (edges : List (ℕ × ℕ × Letter × ℕ)) (e : ℕ × ℕ × Letter × ℕ) → Member (backs_between q p edges) e → Member edges (q, p, e.2, e.3)
goes_between q p edges e h =
    let r = filter_member (λ (x : ℕ × ℕ × Letter × ℕ). eqb x.0 q && eqb x.1 p) edges e h in
    subst (λ (z : ℕ). Member edges (z, p, e.2, e.3)) (eqb-true e.0 q (and_left _ _ r.1))
    (subst (λ (z : ℕ). Member edges (e.0, z, e.2, e.3)) (eqb-true e.1 p (and_right _ _ r.1)) r.0)

pub does_go_between : (q p : ℕ) (edges : List (ℕ × ℕ × Letter × ℕ)) (a : Letter) (e : ℕ) → Member edges (q, p, a, e) → Member (backs_between q p edges) (q, p, a, e)
does_go_between q p edges a e h =
    member_filter (λ (x : ℕ × ℕ × Letter × ℕ). eqb x.0 q && eqb x.1 p) edges (q, p, a, e) h (and_both _ _ (eq-eqb q q refl) (eq-eqb p p refl))

-- what is said of a place stays
pub point_stays : (a b : Searched) (x : Point) → Keeps a b → IsPoint a x → IsPoint b x
point_stays a b x g h = record {
  pair = get_kept a b x.place (x.entry, x.state) g h.pair;
  caller =
      subst (λ (l : List (Option ℕ × ℕ)). IsCaller b.nwa l x.entry x.caller) (sym g.pairs)
      (subst (λ (m : Automaton). IsCaller m (a.pairs ++ g.more) x.entry x.caller) (sym g.nwa)
      (caller_stays a.nwa a.pairs g.more x.entry x.caller h.caller));
}

pub joint_stays : (a b : Searched) (i : ℕ) (c : Letter) (j : ℕ) → Keeps a b → IsJoint a i c j → IsJoint b i c j
joint_stays a b i c j g h = record {
  outer = h.outer;
  before = h.before;
  entry = h.entry;
  state = h.state;
  caller = get_kept a b i (h.outer, h.before) g h.caller;
  edge = subst (λ (m : Automaton). Member m.calls (h.before, c, h.entry)) (sym g.nwa) h.edge;
  exit = get_kept a b j (Some h.entry, h.state) g h.exit;
}

pub called_stays : (a b : Searched) (i : ℕ) (c : Letter) (n : ℕ) → Keeps a b → IsCalled a i c n → IsCalled b i c n
called_stays a b i c n g h = record {
  entry = h.entry;
  before = h.before;
  pair = get_kept a b i (h.entry, h.before) g h.pair;
  edge = subst (λ (m : Automaton). Member m.calls (h.before, c, n)) (sym g.nwa) h.edge;
}

pub inside_stays : (a b : Searched) (j n : ℕ) → Keeps a b → IsInside a j n → IsInside b j n
inside_stays a b j n g h = record { state = h.state; pair = get_kept a b j (Some n, h.state) g h.pair }

pub called_from_stays : (a b : Searched) (p : ℕ) (c : Letter) (j : ℕ) → Keeps a b → IsCalledFrom a p c j → IsCalledFrom b p c j
called_from_stays a b p c j g h = record {
  entry = h.entry;
  state = h.state;
  edge = subst (λ (m : Automaton). Member m.calls (p, c, h.entry)) (sym g.nwa) h.edge;
  pair = get_kept a b j (Some h.entry, h.state) g h.pair;
}

-- joined pairs stay joined: later pairs are more, earlier ones fewer
pub joined_later : (a b c : Searched) (i j : ℕ) → Keeps b c → Joined a b i j → Joined a c i j
joined_later a b c i j g h k p x q e r y z w = member_kept b c (k, e) g (h k p x q e r y z w)

pub joined_earlier : (a b c : Searched) (i j : ℕ) → Keeps a b → Joined b c i j → Joined a c i j
joined_earlier a b c i j g h k p x q e r y z w =
    h k p x q e r (get_kept a b i (k, p) g y) (get_kept a b j (x, q) g z)
    (subst (λ (m : Automaton). Member m.backs (q, p, r, e)) (sym g.nwa) w)

-- a way by an inside letter
pub inside_way : (s : Searched) (x : Point) (a : Letter) (e : ℕ) → IsPoint s x → Member s.nwa.insides (x.state, a, e) →
    IsWay s.nwa s.pairs x.entry e (record { link = links.Inside x.place a; caller = x.caller })
inside_way s x a e v h = record { link = (x.state, v.pair, h); caller = v.caller }

-- a way by a call
pub call_way : (s : Searched) (i : ℕ) (c : Letter) (n : ℕ) → IsCalled s i c n →
    IsWay s.nwa s.pairs (Some n) n (record { link = links.Call; caller = Some (i, c) })
call_way s i c n h = record { link = refl; caller = (h.entry, h.before, h.pair, h.edge) }

some_injective : {X : Type 0} (x y : X) → Some x ≡ Some y → x ≡ y
some_injective x y e = cc

-- what stands at a place is one
one_at : (pairs : List (Option ℕ × ℕ)) (i : ℕ) (x y : Option ℕ × ℕ) → slice_get pairs i ≡ Some x → slice_get pairs i ≡ Some y → x ≡ y
one_at pairs i x y e f = some_injective x y (sym e ∙ f)

-- a way by a call and a return
pub back_way : (s : Searched) (x y : Point) (c : Letter) (r : Letter) (e : ℕ) → IsPoint s x → IsPoint s y → IsJoint s x.place c y.place →
    Member s.nwa.backs (y.state, x.state, r, e) →
    IsWay s.nwa s.pairs x.entry e (record { link = links.Back x.place c y.place r; caller = x.caller })
back_way s x y c r e v u h b =
    let o : (h.outer, h.before) ≡ (x.entry, x.state) = one_at s.pairs x.place (h.outer, h.before) (x.entry, x.state) h.caller v.pair in
    let p : h.before ≡ x.state = ap (λ (z : Option ℕ × ℕ). z.1) o in
    let i : (Some h.entry, h.state) ≡ (y.entry, y.state) = one_at s.pairs y.place (Some h.entry, h.state) (y.entry, y.state) h.exit u.pair in
    let q : h.state ≡ y.state = ap (λ (z : Option ℕ × ℕ). z.1) i in
    record {
      link = (
        x.state,
        h.entry,
        h.state,
        v.pair,
        subst (λ (z : ℕ). Member s.nwa.calls (z, c, h.entry)) p h.edge,
        h.exit,
        subst (λ (z : ℕ). Member s.nwa.backs (z, x.state, r, e)) (sym q) b,
      );
      caller = v.caller;
    }

-- each return between two pairs was followed
pub joined_done : (s t : Searched) (x y : Point) → IsPoint s x → IsPoint s y →
    Each (backs_between y.state x.state s.nwa.backs) (λ e. Member t.pairs (x.entry, e.3)) → Joined s t x.place y.place
joined_done s t x y v u h k p z q e r a b w =
    let o : (k, p) ≡ (x.entry, x.state) = one_at s.pairs x.place (k, p) (x.entry, x.state) a v.pair in
    let i : (z, q) ≡ (y.entry, y.state) = one_at s.pairs y.place (z, q) (y.entry, y.state) b u.pair in
    subst (λ (n : Option ℕ). Member t.pairs (n, e)) (sym (ap (λ (n : Option ℕ × ℕ). n.0) o))
    (h (y.state, x.state, r, e) (does_go_between y.state x.state s.nwa.backs r e
    (subst (λ (n : ℕ). Member s.nwa.backs (y.state, n, r, e)) (ap (λ (n : Option ℕ × ℕ). n.1) o)
    (subst (λ (n : ℕ). Member s.nwa.backs (n, p, r, e)) (ap (λ (n : Option ℕ × ℕ). n.1) i) w))))

-- nothing is joined where a place has no pair
pub joined_nowhere : (s t : Searched) (i j : ℕ) → length s.pairs ≤ i → Joined s t i j
joined_nowhere s t i j l k p x q e r a b w = absurd (past s.pairs i (k, p) l a)

-- how far a search went on along the first elements of a list
pub record Followed {X : Type 0} (old new : Searched) (front : List X) (P : Searched → X → Type 0) : Type 0 where
  pub keeps : Keeps old new
  pub each : Each front (P new)

pub followed_none : {X : Type 0} (s : Searched) (xs : List X) (P : Searched → X → Type 0) → IsSearch s → Followed s s (take 0 xs) P
followed_none s xs P v = record { keeps = keeps_none s v; each = λ x h. absurd h }

pub followed_more : {X : Type 0} (a b c : Searched) (xs : List X) (i : ℕ) (d : X) (P : Searched → X → Type 0) → i < length xs →
    ((s t : Searched) (x : X) → Keeps s t → P s x → P t x) → Followed a b (take i xs) P → Keeps b c → P c (get_or xs i d) →
    Followed a c (take (i + 1) xs) P
followed_more {X} a b c xs i d P l stays f g h = record {
  keeps = keeps_on a b c f.keeps g;
  each =
      subst (λ (front : List X). Each front (P c)) (sym (take_more xs i d l))
      (each_more (take i xs) (get_or xs i d) (P b) (P c) f.each (λ x p. stays b c x g p) h);
}

pub followed_all : {X : Type 0} (a b : Searched) (xs : List X) (i : ℕ) (P : Searched → X → Type 0) → length xs ≤ i → Followed a b (take i xs) P → Each xs (P b)
followed_all {X} a b xs i P l f = subst (λ (front : List X). Each front (P b)) (take_all i xs l) f.each
