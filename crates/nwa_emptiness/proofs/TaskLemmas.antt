-- Words that are put together from tasks.
use Rattle.std.proofs.Common.{◌≡◌, ◌∙◌, ℕ, List, [], ◌∷◌, ◌++◌, length, Option, None, Some, slice_get, refl, sym, ap, subst, inl, inr, append_assoc, append-nil, take, ◌-◌, arith}
use Rattle.std.specs.Prelude.{reverse}
use Rattle.std.proofs.lemmas.List.{reverse-append}
use Rattle.std.specs.List.{AllByRecursion}
use Rattle.nwa_base.specs.declared.letters.Kind.TheVariants as kinds
use Rattle.nwa_base.specs.declared.letters.Letter.{Letter}
use Rattle.nwa_base.specs.Members.{Member}
use Rattle.nwa_base.specs.Automata.{Automaton, IsEdge, IsBackEdge, IsAutomaton}
use Rattle.nwa_emptiness.specs.declared.search.Link.{Link}
use Rattle.nwa_emptiness.specs.declared.search.Link.TheVariants as links
use Rattle.nwa_emptiness.specs.declared.search.Way.{Way}
use Rattle.nwa_emptiness.specs.declared.spelling.Task.{Task}
use Rattle.nwa_emptiness.specs.declared.spelling.Task.TheVariants as tasks
use Rattle.nwa_emptiness.specs.Spelled.{Spells, Reaches}
use Rattle.nwa_emptiness.specs.Ties.Search.{Searched, IsLink, IsCaller, IsSearch}
use Rattle.nwa_emptiness.specs.Ties.Tasks.{IsFilling, AreFillings, IsRest}
use Rattle.nwa_emptiness.proofs.SearchLemmas.{past, way_at, no_way_at}
use Rattle.nwa_emptiness.proofs.SpelledLemmas.{inside_spelled, back_spelled, call_reached, no_call_reached}

fillings_split : (s : Searched) (ts us : List Task) (w : List Letter) → AreFillings s (ts ++ us) w →
    (u : List Letter) × (v : List Letter) × AreFillings s ts u × AreFillings s us v × (w ≡ u ++ v)
fillings_split s [] us w h = ([], w, refl, h, refl)
fillings_split s (t ∷ ts) us w h =
    let r = fillings_split s ts us h.1 h.3 in (
      h.0 ++ r.0,
      r.1,
      (h.0, r.0, h.2, r.2, refl),
      r.3,
      h.4 ∙ ap (λ (l : List Letter). h.0 ++ l) r.4 ∙ sym (append_assoc h.0 r.0 r.1),
    )

fillings_join : (s : Searched) (ts us : List Task) (u v : List Letter) → AreFillings s ts u → AreFillings s us v → AreFillings s (ts ++ us) (u ++ v)
fillings_join s [] us u v h g = subst (λ (l : List Letter). AreFillings s us (l ++ v)) (sym h) g
fillings_join s (t ∷ ts) us u v h g =
    (h.0, h.1 ++ v, h.2, fillings_join s ts us h.1 v h.3 g, ap (λ (l : List Letter). l ++ v) h.4 ∙ append_assoc h.0 h.1 v)

filling_one : (s : Searched) (t : Task) (u : List Letter) → IsFilling s t u → AreFillings s (t ∷ []) u
filling_one s t u h = (u, [], h, refl, sym (append-nil u))

pub one_filling : (s : Searched) (t : Task) (w : List Letter) → AreFillings s (t ∷ []) w → IsFilling s t w
one_filling s t w h = subst (IsFilling s t) (sym (h.4 ∙ ap (λ (l : List Letter). h.0 ++ l) h.3 ∙ append-nil h.0)) h.2

-- tasks in the place of one
pub replaced : (s : Searched) (front more : List Task) (t : Task) → ((u : List Letter) → AreFillings s more u → IsFilling s t u) →
    (w : List Letter) → AreFillings s (front ++ more) w → AreFillings s (front ++ t ∷ []) w
replaced s front more t f w h =
    let r = fillings_split s front more w h in
    subst (AreFillings s (front ++ t ∷ [])) (sym r.4)
    (fillings_join s front (t ∷ []) r.0 r.1 r.2 (filling_one s t r.1 (f r.1 r.3)))

-- no task in the place of one
pub dropped : (s : Searched) (front : List Task) (t : Task) → IsFilling s t [] → (w : List Letter) → AreFillings s front w → AreFillings s (front ++ t ∷ []) w
dropped s front t f w h =
    subst (AreFillings s (front ++ t ∷ [])) (append-nil w) (fillings_join s front (t ∷ []) w [] h (filling_one s t [] f))

-- a task, a letter and the rest
with_letter : (s : Searched) (t : Task) (a : Letter) (rest : List Task) (w : List Letter) → AreFillings s (t ∷ tasks.Letter a ∷ rest) w →
    (u : List Letter) × (v : List Letter) × IsFilling s t u × AreFillings s rest v × (w ≡ (u ++ a ∷ []) ++ v)
with_letter s t a rest w h =
    let g = h.3 in (
      h.0,
      g.1,
      h.2,
      g.3,
      h.4 ∙ ap (λ (l : List Letter). h.0 ++ l) (g.4 ∙ ap (λ (l : List Letter). l ++ g.1) g.2) ∙ sym (append_assoc h.0 (a ∷ []) g.1),
    )

all_member : {X : Type 0} (P : X → Type 0) (xs : List X) (x : X) → AllByRecursion P xs → Member xs x → P x
all_member P [] x h m = absurd m
all_member P (y ∷ ys) x h (inl e) = subst P e h.0
all_member P (y ∷ ys) x h (inr m) = all_member P ys x h.1 m

inside_kind : (m : Automaton) (r q : ℕ) (a : Letter) → IsAutomaton m → Member m.insides (r, a, q) → a.kind ≡ kinds.Inside
inside_kind m r q a v h = (all_member (IsEdge m.states kinds.Inside) m.insides (r, a, q) v.insides h).letter

call_kind : (m : Automaton) (r q : ℕ) (a : Letter) → IsAutomaton m → Member m.calls (r, a, q) → a.kind ≡ kinds.Call
call_kind m r q a v h = (all_member (IsEdge m.states kinds.Call) m.calls (r, a, q) v.calls h).letter

back_kind : (m : Automaton) (r p q : ℕ) (a : Letter) → IsAutomaton m → Member m.backs (r, p, a, q) → a.kind ≡ kinds.Back
back_kind m r p q a v h = (all_member (IsBackEdge m.states) m.backs (r, p, a, q) v.backs h).letter

link_of : (s : Searched) (i : ℕ) (w : Way) (l : Link) (k : Option ℕ) (q : ℕ) → IsSearch s → slice_get s.ways i ≡ Some w → w.link ≡ l →
    slice_get s.pairs i ≡ Some (k, q) → IsLink s.nwa s.pairs k q l
link_of s i w l k q v f e g =
    subst (IsLink s.nwa s.pairs k q) e (way_at s.nwa s.pairs s.pairs s.ways i (k, q) w v.ways g f).link

caller_of : (s : Searched) (i : ℕ) (w : Way) (l : Option (ℕ × Letter)) (k : Option ℕ) (q : ℕ) → IsSearch s → slice_get s.ways i ≡ Some w → w.caller ≡ l →
    slice_get s.pairs i ≡ Some (k, q) → IsCaller s.nwa s.pairs k l
caller_of s i w l k q v f e g =
    subst (IsCaller s.nwa s.pairs k) e (way_at s.nwa s.pairs s.pairs s.ways i (k, q) w v.ways g f).caller

-- past the end each word is what a task asks for
pub segment_nowhere : (s : Searched) (i : ℕ) → IsSearch s → slice_get s.ways i ≡ None → IsFilling s (tasks.Segment i) []
segment_nowhere s i v f k q e = absurd (past s.pairs i (k, q) (no_way_at s.nwa s.pairs s.pairs s.ways i v.ways f) e)

pub whole_nowhere : (s : Searched) (i : ℕ) → IsSearch s → slice_get s.ways i ≡ None → IsFilling s (tasks.Whole i) []
whole_nowhere s i v f k q e = absurd (past s.pairs i (k, q) (no_way_at s.nwa s.pairs s.pairs s.ways i v.ways f) e)

begin_spelled : (m : Automaton) (k : Option ℕ) (q : ℕ) → k ≡ None → q ≡ m.start → Spells m k q []
begin_spelled m k q e f = subst (λ (z : Option ℕ). Spells m z q []) (sym e) (refl, sym f)

call_spelled : (m : Automaton) (k : Option ℕ) (q : ℕ) → k ≡ Some q → Spells m k q []
call_spelled m k q e = subst (λ (z : Option ℕ). Spells m z q []) (sym e) (refl, refl)

pub segment_begin : (s : Searched) (i : ℕ) (w : Way) → IsSearch s → slice_get s.ways i ≡ Some w → w.link ≡ links.Begin → IsFilling s (tasks.Segment i) []
segment_begin s i w v f e k q g = let l = link_of s i w links.Begin k q v f e g in begin_spelled s.nwa k q l.0 l.1

pub segment_call : (s : Searched) (i : ℕ) (w : Way) → IsSearch s → slice_get s.ways i ≡ Some w → w.link ≡ links.Call → IsFilling s (tasks.Segment i) []
segment_call s i w v f e k q g = call_spelled s.nwa k q (link_of s i w links.Call k q v f e g)

pub segment_inside : (s : Searched) (i : ℕ) (w : Way) (j : ℕ) (a : Letter) → IsSearch s → slice_get s.ways i ≡ Some w → w.link ≡ links.Inside j a →
    (u : List Letter) → AreFillings s (tasks.Segment j ∷ tasks.Letter a ∷ []) u → IsFilling s (tasks.Segment i) u
segment_inside s i w j a v f e u h k q g =
    let l = link_of s i w (links.Inside j a) k q v f e g in
    let p = with_letter s (tasks.Segment j) a [] u h in
    subst (Spells s.nwa k q) (sym (p.4 ∙ ap (λ (z : List Letter). (p.0 ++ a ∷ []) ++ z) p.3 ∙ append-nil (p.0 ++ a ∷ [])))
    (inside_spelled s.nwa k l.0 q p.0 a (inside_kind s.nwa l.0 q a v.automaton l.2) (p.2 k l.0 l.1) l.2)

pub segment_back : (s : Searched) (i : ℕ) (w : Way) (j : ℕ) (c : Letter) (x : ℕ) (r : Letter) → IsSearch s → slice_get s.ways i ≡ Some w → w.link ≡ links.Back j c x r →
    (u : List Letter) → AreFillings s (tasks.Segment j ∷ tasks.Letter c ∷ tasks.Segment x ∷ tasks.Letter r ∷ []) u → IsFilling s (tasks.Segment i) u
segment_back s i w j c x r v f e u h k q g =
    let l = link_of s i w (links.Back j c x r) k q v f e g in
    let a = with_letter s (tasks.Segment j) c (tasks.Segment x ∷ tasks.Letter r ∷ []) u h in
    let b = with_letter s (tasks.Segment x) r [] a.1 a.3 in
    let tail : a.1 ≡ b.0 ++ r ∷ [] = b.4 ∙ ap (λ (z : List Letter). (b.0 ++ r ∷ []) ++ z) b.3 ∙ append-nil (b.0 ++ r ∷ []) in
    subst (Spells s.nwa k q) (sym (a.4 ∙ ap (λ (z : List Letter). (a.0 ++ c ∷ []) ++ z) tail ∙ sym (append_assoc (a.0 ++ c ∷ []) b.0 (r ∷ []))))
    (back_spelled s.nwa k l.0 l.1 l.2 q a.0 b.0 c r (call_kind s.nwa l.0 l.1 c v.automaton l.4) (back_kind s.nwa l.2 l.0 q r v.automaton l.6)
    (a.2 k l.0 l.3) l.4 (b.2 (Some l.1) l.2 l.5) l.6)

none_reached : (m : Automaton) (pairs : List (Option ℕ × ℕ)) (k : Option ℕ) (q : ℕ) (u : List Letter) → IsCaller m pairs k None → Spells m k q u → Reaches m q u
none_reached m pairs None q u h g = no_call_reached m q u g
none_reached m pairs (Some n) q u h g = absurd h

pub whole_none : (s : Searched) (i : ℕ) (w : Way) → IsSearch s → slice_get s.ways i ≡ Some w → w.caller ≡ None →
    (u : List Letter) → AreFillings s (tasks.Segment i ∷ []) u → IsFilling s (tasks.Whole i) u
whole_none s i w v f e u h k q g =
    none_reached s.nwa s.pairs k q u (caller_of s i w None k q v f e g) (one_filling s (tasks.Segment i) u h k q g)

some_reached : (s : Searched) (k : Option ℕ) (q j : ℕ) (c : Letter) (u v : List Letter) → IsAutomaton s.nwa → IsCaller s.nwa s.pairs k (Some (j, c)) →
    IsFilling s (tasks.Whole j) u → Spells s.nwa k q v → Reaches s.nwa q ((u ++ c ∷ []) ++ v)
some_reached s None q j c u v a h f g = absurd (let e : Some (j, c) ≡ None = h in cc)
some_reached s (Some n) q j c u v a h f g = call_reached s.nwa h.1 n q u v c (call_kind s.nwa h.1 n c a h.3) (f h.0 h.1 h.2) h.3 g

pub whole_some : (s : Searched) (i : ℕ) (w : Way) (j : ℕ) (c : Letter) → IsSearch s → slice_get s.ways i ≡ Some w → w.caller ≡ Some (j, c) →
    (u : List Letter) → AreFillings s (tasks.Whole j ∷ tasks.Letter c ∷ tasks.Segment i ∷ []) u → IsFilling s (tasks.Whole i) u
whole_some s i w j c v f e u h k q g =
    let p = with_letter s (tasks.Whole j) c (tasks.Segment i ∷ []) u h in
    subst (Reaches s.nwa q) (sym p.4)
    (some_reached s k q j c p.0 p.1 v.automaton (caller_of s i w (Some (j, c)) k q v f e g) p.2 (one_filling s (tasks.Segment i) p.1 p.3 k q g))

-- a letter is written
pub letter_written : (s : Searched) (front : List Task) (a : Letter) (letters new : List Letter) (w : List Letter) → new ≡ letters ++ a ∷ [] →
    IsRest s front new w → IsRest s (front ++ tasks.Letter a ∷ []) letters w
letter_written s front a letters new w p h = (
  h.0 ++ a ∷ [],
  fillings_join s front (tasks.Letter a ∷ []) h.0 (a ∷ []) h.1 (filling_one s (tasks.Letter a) (a ∷ []) refl),
  h.2 ∙ ap (λ (z : List Letter). h.0 ++ z) (ap reverse p ∙ reverse-append letters (a ∷ [])) ∙ sym (append_assoc h.0 (a ∷ []) (reverse letters)),
)

-- nothing is written
pub rest_begin : (s : Searched) (t : Task) (w : List Letter) → IsRest s (t ∷ []) [] w → IsFilling s t w
rest_begin s t w h = subst (IsFilling s t) (sym (h.2 ∙ append-nil h.0)) (one_filling s t h.0 h.1)

-- all is written
pub rest_end : (s : Searched) (ts : List Task) (letters : List Letter) → length ts ≡ 0 → IsRest s ts letters (reverse letters)
rest_end s [] letters e = ([], refl, refl)
rest_end s (t ∷ ts) letters e = absurd (omega arith)

pub task_is : (s : Searched) (front : List Task) (t u : Task) (letters w : List Letter) → t ≡ u → IsRest s (front ++ u ∷ []) letters w →
    IsRest s (front ++ t ∷ []) letters w
task_is s front t u letters w e h = subst (λ (z : Task). IsRest s (front ++ z ∷ []) letters w) (sym e) h

pub rest_first : (s : Searched) (ts : List Task) (t : Task) (letters w : List Letter) → ts ≡ t ∷ [] → letters ≡ [] → IsRest s ts letters w → IsFilling s t w
rest_first s ts t letters w e f h =
    rest_begin s t w (subst (λ (z : List Task). IsRest s z [] w) e (subst (λ (z : List Letter). IsRest s ts z w) f h))

pub rest_last : (s : Searched) (ts : List Task) (letters w : List Letter) → length ts ≡ 0 → w ≡ reverse letters → IsRest s ts letters w
rest_last s ts letters w e f = subst (IsRest s ts letters) (sym f) (rest_end s ts letters e)

pub rest_popped : (s : Searched) (ts front : List Task) (t : Task) (letters w : List Letter) → ts ≡ front ++ t ∷ [] → IsRest s (front ++ t ∷ []) letters w → IsRest s ts letters w
rest_popped s ts front t letters w e h = subst (λ (z : List Task). IsRest s z letters w) (sym e) h

pub none_left : (ts rest : List Task) (n : ℕ) → n ≡ 0 → rest ≡ take (n - 1) ts → ts ≡ rest ++ [] → length ts ≡ 0
none_left ts rest n z r e = ap length (e ∙ append-nil rest ∙ r ∙ ap (λ (k : ℕ). take (k - 1) ts) z)
