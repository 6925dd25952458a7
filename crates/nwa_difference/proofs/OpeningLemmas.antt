-- The edges of a state of the product, made one after another.
use Rattle.std.proofs.Common.{◌≡◌, ◌∙◌, ◌↔◌, ◌<◌, ◌==◌, ℕ, List, [], ◌∷◌, length, Bool, true, false, not, get_or, refl, sym, ap, subst, inl, inr, slice_index_or, eqb, eq-eqb, arith}
use Rattle.std.proofs.lemmas.Bool.{eqb-true}
use Rattle.nwa_base.specs.declared.letters.Kind.TheVariants as kinds
use Rattle.nwa_base.specs.declared.letters.Letter.{Letter}
use Rattle.nwa_base.specs.Members.{Member}
use Rattle.nwa_base.specs.Automata.{Automaton, IsEdge, IsBackEdge}
use Rattle.nwa_base.specs.Edges.{leaving, backs_between, backs_leaving}
use Rattle.nwa_base.proofs.MemberLemmas.{member_filter, filter_member}
use Rattle.nwa_difference.specs.Covering.{IsInsideCovered, IsCallCovered, IsBackCovered}
use Rattle.nwa_difference.specs.Ties.Making.{Made, first_at, set_of, IsMade, Extends, HasInside, HasCall, HasBack, HasInsides, HasCalls, HasBacks, NoReturns}
use Rattle.nwa_difference.proofs.MakingLemmas.{all_member}
use Rattle.nwa_difference.proofs.GrowingLemmas.{first_stays, set_of_stays, within_stays}
use Rattle.nwa_difference.proofs.FollowLemmas.{Each, item_leaving, item_between, each_leaving, each_between}

-- the ends of edges are states
inside_within : (p : Made) (x y : ℕ) (l : Letter) → IsMade p → Member p.product.insides (x, l, y) → y < length p.states
inside_within p x y l v m =
    let e = all_member (IsEdge p.product.states kinds.Inside) p.product.insides (x, l, y) v.automaton.insides m in
    let i = e.to in
    let c = v.count in
    omega arith

call_within : (p : Made) (x y : ℕ) (l : Letter) → IsMade p → Member p.product.calls (x, l, y) → y < length p.states
call_within p x y l v m =
    let e = all_member (IsEdge p.product.states kinds.Call) p.product.calls (x, l, y) v.automaton.calls m in
    let i = e.to in
    let c = v.count in
    omega arith

back_within : (p : Made) (x w y : ℕ) (l : Letter) → IsMade p → Member p.product.backs (x, w, l, y) → y < length p.states
back_within p x w y l v m =
    let e = all_member (IsBackEdge p.product.states) p.product.backs (x, w, l, y) v.automaton.backs m in
    let i = e.to in
    let c = v.count in
    omega arith

module _ (a b : Made) (P : ℕ → Type 0) (Q : ℕ → ℕ → Type 0) (v : IsMade a) (g : Extends a b P Q) where
  -- what is covered stays covered
  inside_covered_stays : (x : ℕ) (l : Letter) (e : ℕ) → x < length a.states → IsInsideCovered a.first a.sets.nwa (set_of a x) l e →
      IsInsideCovered b.first b.sets.nwa (set_of b x) l e
  inside_covered_stays x l e i c =
      subst (λ (m : Automaton). IsInsideCovered m b.sets.nwa (set_of b x) l e) (sym g.first)
      (subst (λ (m : Automaton). IsInsideCovered a.first m (set_of b x) l e) (sym g.sets.nwa)
      (subst (λ (s : List (ℕ × ℕ)). IsInsideCovered a.first a.sets.nwa s l e) (sym (set_of_stays a b P Q x v g i)) c))

  call_covered_stays : (x : ℕ) (l : Letter) (e : ℕ) → x < length a.states → IsCallCovered a.first a.sets.nwa (set_of a x) l e →
      IsCallCovered b.first b.sets.nwa (set_of b x) l e
  call_covered_stays x l e i c =
      subst (λ (m : Automaton). IsCallCovered m b.sets.nwa (set_of b x) l e) (sym g.first)
      (subst (λ (m : Automaton). IsCallCovered a.first m (set_of b x) l e) (sym g.sets.nwa)
      (subst (λ (s : List (ℕ × ℕ)). IsCallCovered a.first a.sets.nwa s l e) (sym (set_of_stays a b P Q x v g i)) c))

  back_covered_stays : (x w : ℕ) (l : Letter) (e : ℕ) → x < length a.states → w < length a.states →
      IsBackCovered a.first a.sets.nwa (set_of a w) (set_of a x) l e → IsBackCovered b.first b.sets.nwa (set_of b w) (set_of b x) l e
  back_covered_stays x w l e i j c =
      subst (λ (m : Automaton). IsBackCovered m b.sets.nwa (set_of b w) (set_of b x) l e) (sym g.first)
      (subst (λ (m : Automaton). IsBackCovered a.first m (set_of b w) (set_of b x) l e) (sym g.sets.nwa)
      (subst (λ (s : List (ℕ × ℕ)). IsBackCovered a.first a.sets.nwa s (set_of b x) l e) (sym (set_of_stays a b P Q w v g j))
      (subst (λ (s : List (ℕ × ℕ)). IsBackCovered a.first a.sets.nwa (set_of a w) s l e) (sym (set_of_stays a b P Q x v g i)) c)))

  -- an edge stays
  inside_stays : (x : ℕ) (l : Letter) (e : ℕ) → HasInside a x l e → HasInside b x l e
  inside_stays x l e h =
      elim h [
        | inl i ↦ inl (i.0, g.insides (x, l, i.0) i.1, first_stays a b P Q i.0 g (inside_within a x i.0 l v i.1) ∙ i.2)
        | inr c ↦ inr (within_stays a b P Q x g c.0, inside_covered_stays x l e c.0 c.1)
      ]

  call_stays : (x : ℕ) (l : Letter) (e : ℕ) → HasCall a x l e → HasCall b x l e
  call_stays x l e h =
      elim h [
        | inl i ↦ inl (i.0, g.calls (x, l, i.0) i.1, first_stays a b P Q i.0 g (call_within a x i.0 l v i.1) ∙ i.2)
        | inr c ↦ inr (within_stays a b P Q x g c.0, call_covered_stays x l e c.0 c.1)
      ]

  back_stays : (x w : ℕ) (l : Letter) (e : ℕ) → HasBack a x w l e → HasBack b x w l e
  back_stays x w l e h =
      elim h [
        | inl i ↦ inl (i.0, g.backs (x, w, l, i.0) i.1, first_stays a b P Q i.0 g (back_within a x w i.0 l v i.1) ∙ i.2)
        | inr c ↦ inr (within_stays a b P Q x g c.0, within_stays a b P Q w g c.1, back_covered_stays x w l e c.0 c.1 c.2)
      ]

  -- an edge of the first automaton, from the state for which a state stands
  inside_before : (x : ℕ) (l : Letter) (e : ℕ) → x < length a.states → Member b.first.insides (first_at b x, l, e) → Member a.first.insides (first_at a x, l, e)
  inside_before x l e i m =
      subst (λ (z : ℕ). Member a.first.insides (z, l, e)) (first_stays a b P Q x g i)
      (subst (λ (z : Automaton). Member z.insides (first_at b x, l, e)) g.first m)

  call_before : (x : ℕ) (l : Letter) (e : ℕ) → x < length a.states → Member b.first.calls (first_at b x, l, e) → Member a.first.calls (first_at a x, l, e)
  call_before x l e i m =
      subst (λ (z : ℕ). Member a.first.calls (z, l, e)) (first_stays a b P Q x g i)
      (subst (λ (z : Automaton). Member z.calls (first_at b x, l, e)) g.first m)

  back_before : (x w : ℕ) (l : Letter) (e : ℕ) → x < length a.states → w < length a.states → Member b.first.backs (first_at b x, first_at b w, l, e) →
      Member a.first.backs (first_at a x, first_at a w, l, e)
  back_before x w l e i j m =
      subst (λ (z : ℕ). Member a.first.backs (first_at a x, z, l, e)) (first_stays a b P Q w g j)
      (subst (λ (z : ℕ). Member a.first.backs (z, first_at b w, l, e)) (first_stays a b P Q x g i)
      (subst (λ (z : Automaton). Member z.backs (first_at b x, first_at b w, l, e)) g.first m))

  -- all edges of a state stay
  pub insides_stay : (x : ℕ) → x < length a.states → HasInsides a x → HasInsides b x
  insides_stay x i h l e m = inside_stays x l e (h l e (inside_before x l e i m))

  pub calls_stay : (x : ℕ) → x < length a.states → HasCalls a x → HasCalls b x
  calls_stay x i h l e m = call_stays x l e (h l e (call_before x l e i m))

  pub backs_stay : (x w : ℕ) → x < length a.states → w < length a.states → HasBacks a x w → HasBacks b x w
  backs_stay x w i j h l e m = back_stays x w l e (h l e (back_before x w l e i j m))

  pub one_inside_stays : (x : ℕ) (z : ℕ × Letter × ℕ) → HasInside a x z.1 z.2 → HasInside b x z.1 z.2
  one_inside_stays x z h = inside_stays x z.1 z.2 h

  pub one_call_stays : (x : ℕ) (z : ℕ × Letter × ℕ) → HasCall a x z.1 z.2 → HasCall b x z.1 z.2
  one_call_stays x z h = call_stays x z.1 z.2 h

  pub one_back_stays : (x w : ℕ) (z : ℕ × ℕ × Letter × ℕ) → HasBack a x w z.2 z.3 → HasBack b x w z.2 z.3
  one_back_stays x w z h = back_stays x w z.2 z.3 h

  -- the edge of this turn
  pub inside_now : (x : ℕ) (r : ℕ × ℕ) (items edges : List (ℕ × Letter × ℕ)) (i : ℕ) (d : ℕ × Letter × ℕ) → x < length a.states →
      r ≡ slice_index_or a.states x (0, 0) → items ≡ leaving r.0 edges → edges ≡ a.first.insides → i < length items →
      Member b.first.insides (first_at b x, (get_or items i d).1, (get_or items i d).2)
  inside_now x r items edges i d l e f k j =
      let m = item_leaving items edges a.first.insides r.0 i d f k j in
      subst (λ (z : Automaton). Member z.insides (first_at b x, (get_or items i d).1, (get_or items i d).2)) (sym g.first)
      (subst (λ (z : ℕ). Member a.first.insides (z, (get_or items i d).1, (get_or items i d).2))
      (ap (λ (z : ℕ × ℕ). z.0) e ∙ sym (first_stays a b P Q x g l)) m)

  pub call_now : (x : ℕ) (r : ℕ × ℕ) (items edges : List (ℕ × Letter × ℕ)) (i : ℕ) (d : ℕ × Letter × ℕ) → x < length a.states →
      r ≡ slice_index_or a.states x (0, 0) → items ≡ leaving r.0 edges → edges ≡ a.first.calls → i < length items →
      Member b.first.calls (first_at b x, (get_or items i d).1, (get_or items i d).2)
  call_now x r items edges i d l e f k j =
      let m = item_leaving items edges a.first.calls r.0 i d f k j in
      subst (λ (z : Automaton). Member z.calls (first_at b x, (get_or items i d).1, (get_or items i d).2)) (sym g.first)
      (subst (λ (z : ℕ). Member a.first.calls (z, (get_or items i d).1, (get_or items i d).2))
      (ap (λ (z : ℕ × ℕ). z.0) e ∙ sym (first_stays a b P Q x g l)) m)

  pub back_now : (x w : ℕ) (r o : ℕ × ℕ) (items edges : List (ℕ × ℕ × Letter × ℕ)) (i : ℕ) (d : ℕ × ℕ × Letter × ℕ) → x < length a.states → w < length a.states →
      r ≡ slice_index_or a.states x (0, 0) → o ≡ slice_index_or a.states w (0, 0) → items ≡ backs_between r.0 o.0 edges → edges ≡ a.first.backs →
      i < length items → Member b.first.backs (first_at b x, first_at b w, (get_or items i d).2, (get_or items i d).3)
  back_now x w r o items edges i d l n e t f k j =
      let m = item_between items edges a.first.backs r.0 o.0 i d f k j in
      subst (λ (z : Automaton). Member z.backs (first_at b x, first_at b w, (get_or items i d).2, (get_or items i d).3)) (sym g.first)
      (subst (λ (z : ℕ). Member a.first.backs (z, first_at b w, (get_or items i d).2, (get_or items i d).3))
      (ap (λ (z : ℕ × ℕ). z.0) e ∙ sym (first_stays a b P Q x g l))
      (subst (λ (z : ℕ). Member a.first.backs (r.0, z, (get_or items i d).2, (get_or items i d).3))
      (ap (λ (z : ℕ × ℕ). z.0) t ∙ sym (first_stays a b P Q w g n)) m))

  -- all edges of a state are made
  pub insides_made : (x : ℕ) (r : ℕ × ℕ) (items edges : List (ℕ × Letter × ℕ)) → x < length a.states → r ≡ slice_index_or a.states x (0, 0) →
      items ≡ leaving r.0 edges → edges ≡ a.first.insides → Each items (λ z. HasInside b x z.1 z.2) → HasInsides b x
  insides_made x r items edges i e f k h l n m =
      each_leaving items edges a.first.insides r.0 (λ z. HasInside b x z.1 z.2) f k h l n
      (subst (λ (z : ℕ). Member a.first.insides (z, l, n)) (sym (ap (λ (z : ℕ × ℕ). z.0) e)) (inside_before x l n i m))

  pub calls_made : (x : ℕ) (r : ℕ × ℕ) (items edges : List (ℕ × Letter × ℕ)) → x < length a.states → r ≡ slice_index_or a.states x (0, 0) →
      items ≡ leaving r.0 edges → edges ≡ a.first.calls → Each items (λ z. HasCall b x z.1 z.2) → HasCalls b x
  calls_made x r items edges i e f k h l n m =
      each_leaving items edges a.first.calls r.0 (λ z. HasCall b x z.1 z.2) f k h l n
      (subst (λ (z : ℕ). Member a.first.calls (z, l, n)) (sym (ap (λ (z : ℕ × ℕ). z.0) e)) (call_before x l n i m))

  pub backs_made : (x w : ℕ) (r o : ℕ × ℕ) (items edges : List (ℕ × ℕ × Letter × ℕ)) → x < length a.states → w < length a.states →
      r ≡ slice_index_or a.states x (0, 0) → o ≡ slice_index_or a.states w (0, 0) → items ≡ backs_between r.0 o.0 edges → edges ≡ a.first.backs →
      Each items (λ z. HasBack b x w z.2 z.3) → HasBacks b x w
  backs_made x w r o items edges i j e t f k h l n m =
      each_between items edges a.first.backs r.0 o.0 (λ z. HasBack b x w z.2 z.3) f k h l n
      (subst (λ (z : ℕ). Member a.first.backs (z, o.0, l, n)) (sym (ap (λ (z : ℕ × ℕ). z.0) e))
      (subst (λ (z : ℕ). Member a.first.backs (first_at a x, z, l, n)) (sym (ap (λ (z : ℕ × ℕ). z.0) t)) (back_before x w l n i j m)))

-- whether a return leaves a state
not_true : (b c : Bool) → b ≡ c → not b ≡ false → c ≡ true
not_true true c e f = sym e
not_true false c e f = let g : true ≡ false = f in cc

pub is_none : {X : Type 0} (xs : List X) → length xs == 0 ≡ true → (x : X) → Member xs x → ⊥
is_none [] e x m = m
is_none (y ∷ xs) e x m = absurd (let f : length (y ∷ xs) ≡ 0 = eqb-true (length (y ∷ xs)) 0 e in omega arith)

none_is : {X : Type 0} (xs : List X) → ((x : X) → Member xs x → ⊥) → length xs == 0 ≡ true
none_is [] h = refl
none_is (y ∷ xs) h = absurd (h y (inl refl))

pub has_returns : (p : Made) (x : ℕ) (r : ℕ × ℕ) (items : List (ℕ × ℕ × Letter × ℕ)) (b : Bool) → r ≡ slice_index_or p.states x (0, 0) →
    items ≡ backs_leaving r.0 p.first.backs → b ≡ (length items == 0) → (not b ≡ false) ↔ NoReturns p x
has_returns p x r items b e f g = (
  λ h w l n m.
      is_none items (not_true b (length items == 0) g h) (r.0, w, l, n)
      (subst (λ (z : List (ℕ × ℕ × Letter × ℕ)). Member z (r.0, w, l, n)) (sym f)
      (member_filter (λ (z : ℕ × ℕ × Letter × ℕ). eqb z.0 r.0) p.first.backs (r.0, w, l, n)
      (subst (λ (z : ℕ × ℕ). Member p.first.backs (z.0, w, l, n)) (sym e) m) (eq-eqb r.0 r.0 refl))),
  λ h.
      ap not (g ∙ none_is items (λ z m.
      let k = filter_member (λ (u : ℕ × ℕ × Letter × ℕ). eqb u.0 r.0) p.first.backs z
      (subst (λ (u : List (ℕ × ℕ × Letter × ℕ)). Member u z) f m) in
      h z.1 z.2 z.3
      (subst (λ (u : ℕ). Member p.first.backs (u, z.1, z.2, z.3)) (eqb-true z.0 r.0 k.1 ∙ ap (λ (u : ℕ × ℕ). u.0) e) k.0))),
)
