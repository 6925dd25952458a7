-- The loops of a search's steps.
use Rattle.std.proofs.Common.{◌≡◌, ◌∙◌, ℕ, ◌<◌, List, length, None, Some, sym, ap, subst, get_or}
use Rattle.nwa_base.specs.declared.letters.Letter.{Letter}
use Rattle.nwa_base.specs.Members.{Member}
use Rattle.nwa_base.specs.Automata.{Automaton}
use Rattle.nwa_base.specs.Edges.{leaving, entering, backs_between}
use Rattle.nwa_base.proofs.MemberLemmas.{member_at}
use Rattle.nwa_emptiness.specs.declared.search.Point.{Point}
use Rattle.nwa_emptiness.specs.Ties.Search.{Searched, IsSearch, IsPoint, Keeps}
use Rattle.nwa_emptiness.specs.Ties.Steps.{IsCalled, IsInside, IsCalledFrom, IsJoint, Joined, InsideDone, ExitsJoined, CallsDone, CallersJoined, ReturnsDone, Expanded}
use Rattle.nwa_emptiness.proofs.SearchLemmas.{keeps_on, member_kept, get_kept}
use Rattle.nwa_emptiness.proofs.StepLemmas.{Each, leaves, does_leave, enters, does_enter, goes_between, joint_stays, joined_later, joined_earlier, joined_done}

at_item : {X : Type 0} (xs ys : List X) (i : ℕ) (d : X) → xs ≡ ys → i < length xs → Member ys (get_or xs i d)
at_item {X} xs ys i d e l = subst (λ (z : List X). Member z (get_or xs i d)) e (member_at xs i d l)

pub item_leaving : (items edges now : List (ℕ × Letter × ℕ)) (q i : ℕ) (d : ℕ × Letter × ℕ) → items ≡ leaving q edges → edges ≡ now → i < length items →
    Member now (q, (get_or items i d).1, (get_or items i d).2)
item_leaving items edges now q i d e f l =
    leaves q now (get_or items i d) (at_item items (leaving q now) i d (e ∙ ap (leaving q) f) l)

pub item_entering : (items edges now : List (ℕ × Letter × ℕ)) (n i : ℕ) (d : ℕ × Letter × ℕ) → items ≡ entering n edges → edges ≡ now → i < length items →
    Member now ((get_or items i d).0, (get_or items i d).1, n)
item_entering items edges now n i d e f l =
    enters n now (get_or items i d) (at_item items (entering n now) i d (e ∙ ap (entering n) f) l)

pub item_between : (items edges now : List (ℕ × ℕ × Letter × ℕ)) (q p i : ℕ) (d : ℕ × ℕ × Letter × ℕ) → items ≡ backs_between q p edges → edges ≡ now → i < length items →
    Member now (q, p, (get_or items i d).2, (get_or items i d).3)
item_between items edges now q p i d e f l =
    goes_between q p now (get_or items i d) (at_item items (backs_between q p now) i d (e ∙ ap (backs_between q p) f) l)

pub item_of : (items xs : List ℕ) (i d : ℕ) → items ≡ xs → i < length items → Member xs (get_or items i d)
item_of items xs i d e l = at_item items xs i d e l

-- what a step needs
pub called_point : (a b : Searched) (x : Point) (c : Letter) (n : ℕ) → Keeps a b → IsPoint a x → Member b.nwa.calls (x.state, c, n) → IsCalled b x.place c n
called_point a b x c n g h e = record { entry = x.entry; before = x.state; pair = get_kept a b x.place (x.entry, x.state) g h.pair; edge = e }

pub called_from : (a b : Searched) (p : ℕ) (c : Letter) (j n : ℕ) → Keeps a b → IsInside a j n → Member b.nwa.calls (p, c, n) → IsCalledFrom b p c j
called_from a b p c j n g h e = record { entry = n; state = h.state; edge = e; pair = get_kept a b j (Some n, h.state) g h.pair }

pub joint_exit : (a b : Searched) (i : ℕ) (c : Letter) (n j : ℕ) → IsSearch a → Keeps a b → IsCalled a i c n → Member (a.by_entry n) j → IsJoint b i c j
joint_exit a b i c n j v g h m =
    let r = v.is_entry j n m in
    joint_stays a b i c j g (record { outer = h.entry; before = h.before; entry = n; state = r.0; caller = h.pair; edge = h.edge; exit = r.1 })

pub joint_caller : (a b : Searched) (p : ℕ) (c : Letter) (j i : ℕ) → IsSearch a → Keeps a b → IsCalledFrom a p c j → Member (a.by_state p) i → IsJoint b i c j
joint_caller a b p c j i v g h m =
    let r = v.is_state i p m in
    joint_stays a b i c j g (record { outer = r.0; before = p; entry = h.entry; state = h.state; caller = r.1; edge = h.edge; exit = h.pair })

-- what steps did, later and earlier
pub exits_later : (a b c : Searched) (i n : ℕ) → Keeps b c → ExitsJoined a b i n → ExitsJoined a c i n
exits_later a b c i n g h j q e = joined_later a b c i j g (h j q e)

pub exits_earlier : (a b c : Searched) (i n : ℕ) → Keeps a b → ExitsJoined b c i n → ExitsJoined a c i n
exits_earlier a b c i n g h j q e = joined_earlier a b c i j g (h j q (get_kept a b j (Some n, q) g e))

pub callers_later : (a b c : Searched) (p j : ℕ) → Keeps b c → CallersJoined a b p j → CallersJoined a c p j
callers_later a b c p j g h i k e = joined_later a b c i j g (h i k e)

pub callers_earlier : (a b c : Searched) (p j : ℕ) → Keeps a b → CallersJoined b c p j → CallersJoined a c p j
callers_earlier a b c p j g h i k e = joined_earlier a b c i j g (h i k (get_kept a b i (k, p) g e))

pub inside_later : (a b c : Searched) (x : Point) → Keeps b c → InsideDone a b x → InsideDone a c x
inside_later a b c x g h e l m = member_kept b c (x.entry, e) g (h e l m)

pub inside_earlier : (a b c : Searched) (x : Point) → Keeps a b → InsideDone b c x → InsideDone a c x
inside_earlier a b c x g h e l m = h e l (subst (λ (z : Automaton). Member z.insides (x.state, l, e)) (sym g.nwa) m)

pub calls_later : (a b c : Searched) (x : Point) → Keeps b c → CallsDone a b x → CallsDone a c x
calls_later a b c x g h e l m = let r = h e l m in (member_kept b c (Some e, e) g r.0, exits_later a b c x.place e g r.1)

pub calls_earlier : (a b c : Searched) (x : Point) → Keeps a b → CallsDone b c x → CallsDone a c x
calls_earlier a b c x g h e l m =
    let r = h e l (subst (λ (z : Automaton). Member z.calls (x.state, l, e)) (sym g.nwa) m) in (r.0, exits_earlier a b c x.place e g r.1)

pub returns_earlier : (a b c : Searched) (j n : ℕ) → Keeps a b → ReturnsDone b c j n → ReturnsDone a c j n
returns_earlier a b c j n g h p l m =
    callers_earlier a b c p j g (h p l (subst (λ (z : Automaton). Member z.calls (p, l, n)) (sym g.nwa) m))

-- what a whole loop did
pub inside_done : (s t : Searched) (x : Point) (items edges : List (ℕ × Letter × ℕ)) → items ≡ leaving x.state edges → edges ≡ s.nwa.insides →
    Each items (λ e. Member t.pairs (x.entry, e.2)) → InsideDone s t x
inside_done s t x items edges e f h n a m =
    h (x.state, a, n) (subst (λ (l : List (ℕ × Letter × ℕ)). Member l (x.state, a, n)) (sym (e ∙ ap (leaving x.state) f)) (does_leave x.state s.nwa.insides a n m))

pub calls_done : (s t : Searched) (x : Point) (items edges : List (ℕ × Letter × ℕ)) → items ≡ leaving x.state edges → edges ≡ s.nwa.calls →
    Each items (λ e. Member t.pairs (Some e.2, e.2) × ExitsJoined s t x.place e.2) → CallsDone s t x
calls_done s t x items edges e f h n a m =
    h (x.state, a, n) (subst (λ (l : List (ℕ × Letter × ℕ)). Member l (x.state, a, n)) (sym (e ∙ ap (leaving x.state) f)) (does_leave x.state s.nwa.calls a n m))

pub returns_done : (s t : Searched) (j n : ℕ) (items edges : List (ℕ × Letter × ℕ)) → items ≡ entering n edges → edges ≡ s.nwa.calls →
    Each items (λ e. CallersJoined s t e.0 j) → ReturnsDone s t j n
returns_done s t j n items edges e f h p a m =
    h (p, a, n) (subst (λ (l : List (ℕ × Letter × ℕ)). Member l (p, a, n)) (sym (e ∙ ap (entering n) f)) (does_enter n s.nwa.calls p a m))

pub exits_done : (s t : Searched) (i n : ℕ) (items : List ℕ) → IsSearch s → items ≡ s.by_entry n → Each items (λ j. Joined s t i j) → ExitsJoined s t i n
exits_done s t i n items v e h j q g = h j (subst (λ (l : List ℕ). Member l j) (sym e) (v.entry j n q g))

pub callers_done : (s t : Searched) (p j : ℕ) (items : List ℕ) → IsSearch s → items ≡ s.by_state p → Each items (λ i. Joined s t i j) → CallersJoined s t p j
callers_done s t p j items v e h i k g = h i (subst (λ (l : List ℕ). Member l i) (sym e) (v.state i k p g))

pub between_done : (s t : Searched) (x y : Point) (items edges : List (ℕ × ℕ × Letter × ℕ)) → IsPoint s x → IsPoint s y →
    items ≡ backs_between y.state x.state edges → edges ≡ s.nwa.backs → Each items (λ e. Member t.pairs (x.entry, e.3)) → Joined s t x.place y.place
between_done s t x y items edges v u e f h =
    joined_done s t x y v u
    (subst (λ (l : List (ℕ × ℕ × Letter × ℕ)). Each l (λ z. Member t.pairs (x.entry, z.3))) (e ∙ ap (backs_between y.state x.state) f) h)

pub joined_at : (s t : Searched) (i k j l : ℕ) → i ≡ k → j ≡ l → Joined s t i j → Joined s t k l
joined_at s t i k j l e f h = subst (λ (z : ℕ). Joined s t z l) e (subst (λ (z : ℕ). Joined s t i z) f h)

-- a pair with no entry
pub expanded_none : (a b : Searched) (x : Point) → x.entry ≡ None → Keeps a b → InsideDone a b x → CallsDone a b x → Expanded a b x
expanded_none a b x e g i h = record {
  keeps = g;
  inside = i;
  calls = h;
  returns = λ n f. absurd (let k : None ≡ Some n = sym e ∙ f in cc);
}

same_some : {X : Type 0} (x y : X) → Some x ≡ Some y → x ≡ y
same_some x y e = cc

-- a pair inside a call
pub expanded_some : (a b c : Searched) (x : Point) (n : ℕ) → x.entry ≡ Some n → Keeps a b → InsideDone a b x → CallsDone a b x →
    Keeps b c → ReturnsDone b c x.place n → Expanded a c x
expanded_some a b c x n e g i h k r = record {
  keeps = keeps_on a b c g k;
  inside = inside_later a b c x k i;
  calls = calls_later a b c x k h;
  returns = λ m f. subst (λ (z : ℕ). ReturnsDone a c x.place z) (same_some n m (sym e ∙ f)) (returns_earlier a b c x.place n g r);
}
