-- What a whole search shows.
use Rattle.std.proofs.Common.{◌≡◌, ◌∙◌, ◌⊎◌, ◌<◌, ◌≤◌, ◌+◌, ℕ, zero, suc, List, [], ◌∷◌, ◌++◌, length, Option, None, Some, Bool, true, false, slice_get, IsTrue, IsSome, refl, sym, ap, subst, inl, inr, arith}
use Rattle.std.specs.Prelude.{MatchOption, ◌↔◌}
use Rattle.nwa_emptiness.specs.declared.spelling.Task.TheVariants as tasks
use Rattle.nwa_emptiness.specs.Ties.Tasks.{IsFilling}
use Rattle.nwa_emptiness.proofs.SpelledLemmas.{reached_accepted}
use Rattle.std.proofs.lemmas.Bool.{cases_lt}
use Rattle.nwa_base.specs.declared.letters.Kind.{Kind}
use Rattle.nwa_base.specs.declared.letters.Kind.TheVariants.{Inside, Call, Back}
use Rattle.nwa_base.specs.declared.letters.Letter.{Letter}
use Rattle.nwa_base.specs.Members.{Member}
use Rattle.nwa_base.specs.Words.{goes_on, are_matched}
use Rattle.nwa_base.specs.Automata.{Automaton}
use Rattle.nwa_base.specs.Acceptance.{Follows, AcceptsFrom, Accepts}
use Rattle.nwa_emptiness.specs.declared.search.Point.{Point}
use Rattle.nwa_emptiness.specs.Closed.{IsClosed, NoneFinal}
use Rattle.nwa_emptiness.specs.Ties.Search.{Searched, IsPoint, Keeps}
use Rattle.nwa_emptiness.specs.Ties.Steps.{Expanded}
use Rattle.nwa_emptiness.proofs.SearchLemmas.{member_kept, get_kept, get_member, get_within}
use Rattle.nwa_emptiness.proofs.ClosedLemmas.{none_accepted}

-- Each letter leads from the pairs at places below n to pairs of the list, and each return from two of them. None of these
-- pairs ends in a final state.
pub record IsDone (s : Searched) (n : ℕ) : Type 0 where
  pub within : n ≤ length s.pairs
  pub start : Member s.pairs (None, s.nwa.start)
  pub inside : (i : ℕ) (k : Option ℕ) (q e : ℕ) (a : Letter) → i < n → slice_get s.pairs i ≡ Some (k, q) →
      Member s.nwa.insides (q, a, e) → Member s.pairs (k, e)
  pub call : (i : ℕ) (k : Option ℕ) (q e : ℕ) (c : Letter) → i < n → slice_get s.pairs i ≡ Some (k, q) →
      Member s.nwa.calls (q, c, e) → Member s.pairs (Some e, e)
  pub back : (i j : ℕ) (k : Option ℕ) (p x q e : ℕ) (c r : Letter) → i < n → j < n → slice_get s.pairs i ≡ Some (k, p) →
      Member s.nwa.calls (p, c, x) → slice_get s.pairs j ≡ Some (Some x, q) → Member s.nwa.backs (q, p, r, e) → Member s.pairs (k, e)
  pub final : (i : ℕ) (k : Option ℕ) (q : ℕ) → i < n → slice_get s.pairs i ≡ Some (k, q) → Member s.nwa.finals q → ⊥

pub done_none : (s : Searched) → Member s.pairs (None, s.nwa.start) → IsDone s 0
done_none s h = record {
  within = omega arith;
  start = h;
  inside = λ i k q e a l g m. absurd (omega arith);
  call = λ i k q e c l g m. absurd (omega arith);
  back = λ i j k p x q e c r l f g m h b. absurd (omega arith);
  final = λ i k q l g m. absurd (omega arith);
}

-- all places are done
pub closed_all : (s : Searched) (n : ℕ) → length s.pairs ≤ n → IsDone s n → IsClosed s.nwa s.pairs
closed_all s n l d = record {
  start = d.start;
  inside = λ k q e a m g.
      let r = get_member s.pairs (k, q) m in let w = get_within s.pairs r.0 (k, q) r.1 in d.inside r.0 k q e a (omega arith) r.1 g;
  call = λ k q e c m g.
      let r = get_member s.pairs (k, q) m in let w = get_within s.pairs r.0 (k, q) r.1 in d.call r.0 k q e c (omega arith) r.1 g;
  back = λ k p x q e c r m g h b.
      let u = get_member s.pairs (k, p) m in
      let y = get_within s.pairs u.0 (k, p) u.1 in
      let v = get_member s.pairs (Some x, q) h in
      let z = get_within s.pairs v.0 (Some x, q) v.1 in
      d.back u.0 v.0 k p x q e c r (omega arith) (omega arith) u.1 g v.1 b;
}

final_none : (s : Searched) (n : ℕ) → length s.pairs ≤ n → IsDone s n → NoneFinal s.nwa s.pairs
final_none s n l d k q m f =
    let r = get_member s.pairs (k, q) m in
    let w = get_within s.pairs r.0 (k, q) r.1 in
    d.final r.0 k q (omega arith) r.1 f

pub none_found : (s : Searched) (m : Automaton) (n : ℕ) → s.nwa ≡ m → length s.pairs ≤ n → IsDone s n → (w : List Letter) → Accepts m w → ⊥
none_found s m n e l d w h =
    none_accepted s.nwa s.pairs (closed_all s n l d) (final_none s n l d) w (subst (λ (z : Automaton). Accepts z w) (sym e) h)

-- what stands at a place that was there before
get_back : {X : Type 0} (xs ys : List X) (i : ℕ) (x : X) → i < length xs → slice_get (xs ++ ys) i ≡ Some x → slice_get xs i ≡ Some x
get_back [] ys i x l e = absurd (omega arith)
get_back (y ∷ xs) ys zero x l e = e
get_back (y ∷ xs) ys (suc i) x l e = get_back xs ys i x (omega arith) e

before : (a b : Searched) (i : ℕ) (x : Option ℕ × ℕ) → Keeps a b → i < length a.pairs → slice_get b.pairs i ≡ Some x → slice_get a.pairs i ≡ Some x
before a b i x g l e =
    get_back a.pairs g.more i x l (subst (λ (z : List (Option ℕ × ℕ)). slice_get z i ≡ Some x) g.pairs e)

-- the letters of a word that is accepted are matched
goes_on_matched : (m : Automaton) (kind : Kind) (a : Letter) (stack : List ℕ) (q e : ℕ) (w : List Letter) →
    ((s : List ℕ) → AcceptsFrom m s e w → are_matched (length s) w ≡ true) →
    Follows m kind a stack q e (λ s. AcceptsFrom m s e w) → goes_on kind (length stack) (λ n. are_matched n w) ≡ true
goes_on_matched m Inside a stack q e w f h = f stack h.1
goes_on_matched m Call a stack q e w f h = f (q ∷ stack) h.1
goes_on_matched m Back a [] q e w f h = absurd h
goes_on_matched m Back a (p ∷ stack) q e w f h = f stack h.1

accepted_matched : (m : Automaton) (w : List Letter) (stack : List ℕ) (q : ℕ) → AcceptsFrom m stack q w → are_matched (length stack) w ≡ true
accepted_matched m [] stack q h = refl
accepted_matched m (a ∷ w) stack q h = goes_on_matched m a.kind a stack q h.0 w (λ s g. accepted_matched m w s h.0 g) h.1

pub accepted_is_matched : (m : Automaton) (w : List Letter) → Accepts m w → are_matched 0 w ≡ true
accepted_is_matched m w h = accepted_matched m w [] m.start h

below : (i n : ℕ) → i < n + 1 → (i < n) ⊎ (i ≡ n)
below i n l = elim (cases_lt i n) [ inl a ↦ inl a | inr b ↦ inr (omega arith) ]

some_pair : (x y : Option ℕ × ℕ) → Some x ≡ Some y → x ≡ y
some_pair x y e = cc

abbrev Same : Option ℕ × ℕ → Option ℕ × ℕ → Type 0
Same x y = x ≡ y

-- the pair at a place
at_point : (a b : Searched) (x : Point) (i : ℕ) (k : Option ℕ) (q : ℕ) → Keeps a b → IsPoint a x → i ≡ x.place → slice_get b.pairs i ≡ Some (k, q) →
    Same (k, q) (x.entry, x.state)
at_point a b x i k q g p e h =
    some_pair (k, q) (x.entry, x.state)
    (sym (subst (λ (z : ℕ). slice_get b.pairs z ≡ Some (k, q)) e h) ∙ get_kept a b x.place (x.entry, x.state) g p.pair)

-- the inside letters of one pair more
inside_more : (a b : Searched) (x : Point) → IsPoint a x → IsDone a x.place → Expanded a b x →
    (i : ℕ) (k : Option ℕ) (q e : ℕ) (l : Letter) → i < x.place + 1 → slice_get b.pairs i ≡ Some (k, q) →
    Member b.nwa.insides (q, l, e) → Member b.pairs (k, e)
inside_more a b x p d s i k q e l w h m =
    let m' = subst (λ (z : Automaton). Member z.insides (q, l, e)) s.keeps.nwa m in
    elim (below i x.place w) [
      | inl u ↦
          let v = d.within in
          member_kept a b (k, e) s.keeps (d.inside i k q e l u (before a b i (k, q) s.keeps (omega arith) h) m')
      | inr u ↦
          let o = at_point a b x i k q s.keeps p u h in
          subst (λ (z : Option ℕ). Member b.pairs (z, e)) (sym (ap (λ (z : Option ℕ × ℕ). z.0) o))
          (s.inside e l (subst (λ (z : ℕ). Member a.nwa.insides (z, l, e)) (ap (λ (z : Option ℕ × ℕ). z.1) o) m'))
    ]

-- the calls of one pair more
call_more : (a b : Searched) (x : Point) → IsPoint a x → IsDone a x.place → Expanded a b x →
    (i : ℕ) (k : Option ℕ) (q e : ℕ) (l : Letter) → i < x.place + 1 → slice_get b.pairs i ≡ Some (k, q) →
    Member b.nwa.calls (q, l, e) → Member b.pairs (Some e, e)
call_more a b x p d s i k q e l w h m =
    let m' = subst (λ (z : Automaton). Member z.calls (q, l, e)) s.keeps.nwa m in
    elim (below i x.place w) [
      | inl u ↦
          let v = d.within in
          member_kept a b (Some e, e) s.keeps (d.call i k q e l u (before a b i (k, q) s.keeps (omega arith) h) m')
      | inr u ↦
          let o = at_point a b x i k q s.keeps p u h in
          (s.calls e l (subst (λ (z : ℕ). Member a.nwa.calls (z, l, e)) (ap (λ (z : Option ℕ × ℕ). z.1) o) m')).0
    ]

-- the returns to the pair that is new among those done
outer_more : (a b : Searched) (x : Point) → IsPoint a x → Expanded a b x →
    (j : ℕ) (k : Option ℕ) (p n q e : ℕ) (c r : Letter) → Same (k, p) (x.entry, x.state) → Member a.nwa.calls (p, c, n) →
    slice_get a.pairs j ≡ Some (Some n, q) → Member a.nwa.backs (q, p, r, e) → Member b.pairs (k, e)
outer_more a b x v s j k p n q e c r o g h m =
    let done = (s.calls n c (subst (λ (z : ℕ). Member a.nwa.calls (z, c, n)) (ap (λ (z : Option ℕ × ℕ). z.1) o) g)).1 in
    done j q h k p (Some n) q e r (v.pair ∙ ap (λ (z : Option ℕ × ℕ). Some z) (sym o)) h m

-- the returns from the pair that is new among those done
exit_more : (a b : Searched) (x : Point) → IsPoint a x → Expanded a b x →
    (i : ℕ) (k : Option ℕ) (p n q e : ℕ) (c r : Letter) → Same (Some n, q) (x.entry, x.state) → Member a.nwa.calls (p, c, n) →
    slice_get a.pairs i ≡ Some (k, p) → Member a.nwa.backs (q, p, r, e) → Member b.pairs (k, e)
exit_more a b x v s i k p n q e c r o g h m =
    s.returns n (sym (ap (λ (z : Option ℕ × ℕ). z.0) o)) p c g i k h k p (Some n) q e r h
    (v.pair ∙ ap (λ (z : Option ℕ × ℕ). Some z) (sym o)) m

-- what stands in the first places was there before
front_before : (a b : Searched) (x : Point) → IsPoint a x → Keeps a b → (i : ℕ) (y : Option ℕ × ℕ) → i < x.place + 1 →
    slice_get b.pairs i ≡ Some y → slice_get a.pairs i ≡ Some y
front_before a b x v g i y w h =
    let t = get_within a.pairs x.place (x.entry, x.state) v.pair in before a b i y g (omega arith) h

back_more : (a b : Searched) (x : Point) → IsPoint a x → IsDone a x.place → Expanded a b x →
    (i j : ℕ) (k : Option ℕ) (p n q e : ℕ) (c r : Letter) → i < x.place + 1 → j < x.place + 1 → slice_get b.pairs i ≡ Some (k, p) →
    Member b.nwa.calls (p, c, n) → slice_get b.pairs j ≡ Some (Some n, q) → Member b.nwa.backs (q, p, r, e) → Member b.pairs (k, e)
back_more a b x v d s i j k p n q e c r w y h g f m =
    let g' = subst (λ (z : Automaton). Member z.calls (p, c, n)) s.keeps.nwa g in
    let m' = subst (λ (z : Automaton). Member z.backs (q, p, r, e)) s.keeps.nwa m in
    let h' = front_before a b x v s.keeps i (k, p) w h in
    let f' = front_before a b x v s.keeps j (Some n, q) y f in
    elim (below i x.place w) [
      | inl u ↦
          elim (below j x.place y) [
            | inl z ↦ member_kept a b (k, e) s.keeps (d.back i j k p n q e c r u z h' g' f' m')
            | inr z ↦ exit_more a b x v s i k p n q e c r (at_point a b x j (Some n) q s.keeps v z f) g' h' m'
          ]
      | inr u ↦ outer_more a b x v s j k p n q e c r (at_point a b x i k p s.keeps v u h) g' f' m'
    ]

final_more : (a b : Searched) (x : Point) → IsPoint a x → IsDone a x.place → Keeps a b → (Member a.nwa.finals x.state → ⊥) →
    (i : ℕ) (k : Option ℕ) (q : ℕ) → i < x.place + 1 → slice_get b.pairs i ≡ Some (k, q) → Member b.nwa.finals q → ⊥
final_more a b x v d g n i k q w h m =
    let m' = subst (λ (z : Automaton). Member z.finals q) g.nwa m in
    elim (below i x.place w) [
      | inl u ↦ d.final i k q u (front_before a b x v g i (k, q) w h) m'
      | inr u ↦ n (subst (λ (z : ℕ). Member a.nwa.finals z) (ap (λ (z : Option ℕ × ℕ). z.1) (at_point a b x i k q g v u h)) m')
    ]

-- one pair more is done
pub done_more : (a b : Searched) (x : Point) → IsPoint a x → IsDone a x.place → (Member a.nwa.finals x.state → ⊥) → Expanded a b x → IsDone b (x.place + 1)
done_more a b x v d n s = record {
  within =
      let t = get_within b.pairs x.place (x.entry, x.state) (get_kept a b x.place (x.entry, x.state) s.keeps v.pair) in omega arith;
  start =
      subst (λ (z : Automaton). Member b.pairs (None, z.start)) (sym s.keeps.nwa) (member_kept a b (None, a.nwa.start) s.keeps d.start);
  inside = inside_more a b x v d s;
  call = call_more a b x v d s;
  back = back_more a b x v d s;
  final = final_more a b x v d s.keeps n;
}

pub done_begin : (s : Searched) (m : Automaton) → s.nwa ≡ m → Member s.pairs (None, m.start) → IsDone s 0
done_begin s m e h = done_none s (subst (λ (z : Automaton). Member s.pairs (None, z.start)) (sym e) h)

is_not : (b : Bool) (P : Type 0) → IsTrue b ↔ P → b ≡ false → P → ⊥
is_not true P t e h = cc
is_not false P t e h = let f : false ≡ true = t.1 h in cc

-- the pair at this place is done too
pub done_at : (a b : Searched) (m : Automaton) (x : Point) (place : ℕ) (is_final : Bool) → a.nwa ≡ m → IsPoint a x → x.place ≡ place → IsDone a place →
    IsTrue is_final ↔ Member m.finals x.state → is_final ≡ false → Expanded a b x → IsDone b (place + 1)
done_at a b m x place is_final e v p d t f s =
    subst (λ (n : ℕ). IsDone b (n + 1)) p
    (done_more a b x v (subst (IsDone a) (sym p) d)
    (λ h. is_not is_final (Member m.finals x.state) t f (subst (λ (z : Automaton). Member z.finals x.state) e h)) s)

-- a word is made of letters that are matched
pub made_word : (r : Option (List Letter)) (letters : List Letter) → MatchOption r (are_matched 0 letters ≡ false) (λ w. w ≡ letters) →
    are_matched 0 letters ≡ true → IsSome r
made_word None letters h e = absurd (let f : false ≡ true = sym h ∙ e in cc)
made_word (Some w) letters h e = refl

-- the letters that were written for a pair with a final state are accepted
pub letters_accepted : (s : Searched) (m : Automaton) (x : Point) (place : ℕ) (letters : List Letter) → s.nwa ≡ m → IsPoint s x → x.place ≡ place →
    IsFilling s (tasks.Whole place) letters → Member m.finals x.state → Accepts m letters
letters_accepted s m x place letters e v p f h =
    subst (λ (z : Automaton). Accepts z letters) e
    (reached_accepted s.nwa x.state letters
    (f x.entry x.state (subst (λ (z : ℕ). slice_get s.pairs z ≡ Some (x.entry, x.state)) p v.pair))
    (subst (λ (z : Automaton). Member z.finals x.state) (sym e) h))

pub word_accepted : (m : Automaton) (r : Option (List Letter)) (w letters : List Letter) → MatchOption r (are_matched 0 letters ≡ false) (λ w. w ≡ letters) →
    r ≡ Some w → Accepts m letters → Accepts m w
word_accepted m None w letters h e a = cc
word_accepted m (Some v) w letters h e a =
    let f : v ≡ w = cc in subst (λ (z : List Letter). Accepts m z) (sym h ∙ f) a
