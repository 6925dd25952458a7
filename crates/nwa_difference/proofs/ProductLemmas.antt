-- The product accepts what the first automaton accepts and the second does not.
use Rattle.std.proofs.Common.{◌≡◌, ◌↔◌, ℕ, List, [], ◌∷◌, map, Option, None, Some, refl, sym, ap, subst, inl, inr}
use Rattle.nwa_base.specs.declared.letters.Kind.{Kind}
use Rattle.nwa_base.specs.declared.letters.Kind.TheVariants.{Inside, Call, Back}
use Rattle.nwa_base.specs.declared.letters.Letter.{Letter}
use Rattle.nwa_base.specs.Members.{Member}
use Rattle.nwa_base.specs.Automata.{Automaton}
use Rattle.nwa_base.specs.Acceptance.{Follows, AcceptsFrom, Accepts}
use Rattle.nwa_base.specs.Pairs.{Linked, SomeAccepts, IsSupported, IsInsideOf, IsCallOf, IsBackOf}
use Rattle.nwa_base.proofs.Steps.{inside_on, call_on, back_on, at_start, at_end}
use Rattle.nwa_difference.specs.Covering.{CallAlike, AllCallAlike, IsCovered}
use Rattle.nwa_difference.specs.Product.{IsProduct}

-- the calls that are open, innermost first: each was made from a pair, by an edge to the entry of the call
abbrev pub Around : Automaton → List (Option ℕ × ℕ) → Option ℕ → List ℕ → Type 0
Around d pairs None [] = Unit {0}
Around d pairs None (p ∷ before) = ⊥
Around d pairs (Some n) [] = ⊥
Around d pairs (Some n) (p ∷ before) =
    (j : Option ℕ) × (c : Letter) × Member pairs (j, p) × Member d.calls (p, c, n) × Around d pairs j before

module _ (a b d : Automaton) (first : ℕ → ℕ) (set : ℕ → List (ℕ × ℕ)) (pairs : List (Option ℕ × ℕ)) (is : IsProduct a b d first set pairs) where
  -- the keys of each set, which are states of b before a call, call alike as the states of a before that call
  abbrev Keyed : List ℕ → List (ℕ × ℕ) → Type 0
  Keyed [] s = Unit {0}
  Keyed (p ∷ before) s = ((k u : ℕ) → Member s (k, u) → CallAlike a b (first p) k) × Keyed before (set p)

  keyed_inside : (before : List ℕ) (l : Letter) (s t : List (ℕ × ℕ)) → IsInsideOf b l s t → Keyed before s → Keyed before t
  keyed_inside [] l s t i h = tt
  keyed_inside (p ∷ before) l s t i h = (λ k u m. let r = i.sound k u m in h.0 k r.0 r.1, h.1)

  keyed_call : (before : List ℕ) (x e : ℕ) (l : Letter) (t : List (ℕ × ℕ)) → Member a.calls (first x, l, e) → IsCallOf b l (set x) t →
      Keyed before (set x) → Keyed (x ∷ before) t
  keyed_call before x e l t f i h = (λ k u m. let r = i.sound k u m in (l, e, u, f, r.2), h)

  keyed_back : (before : List ℕ) (l : Letter) (o s t : List (ℕ × ℕ)) → IsBackOf b l o s t → Keyed before o → Keyed before t
  keyed_back [] l o s t i h = tt
  keyed_back (p ∷ before) l o s t i h = (λ k u m. let r = i.sound k u m in h.0 k r.0 r.2, h.1)

  -- states of b before the open calls, by which a pair of the set is reached
  linked_alike : (before : List ℕ) (t : List (ℕ × ℕ)) (k u : ℕ) → Member t (k, u) → IsSupported b.start (t ∷ map set before) → Keyed before t →
      (ks : List ℕ) × Linked b.start (t ∷ map set before) ks u × AllCallAlike a b (map first before) ks
  linked_alike [] t k u m v h = ([], subst (λ (z : ℕ). Member {X = ℕ × ℕ} t (z, u)) (v k u m) m, tt)
  linked_alike (p ∷ before) t k u m v h =
      let o = v.0 k u m in
      let r = linked_alike before (set p) o.0 k o.1 v.1 h.1 in
      (k ∷ r.0, (m, r.1), (h.0 k u m, r.2))

  -- what a accepts from a state that a set covers, b accepts from the set
  covered_accepts : (before : List ℕ) (t : List (ℕ × ℕ)) (e : ℕ) (w : List Letter) → IsCovered a b e t → IsSupported b.start (t ∷ map set before) →
      Keyed before t → AcceptsFrom a (map first before) e w → SomeAccepts b (t ∷ map set before) w
  covered_accepts before t e w c v h g =
      let r = linked_alike before t c.key c.state c.member v h in
      record { before = r.0; state = c.state; linked = r.1; accepts = c.covers w (map first before) r.0 r.2 g }

  -- a state of d with the states before its open calls
  record Stands (k : Option ℕ) (before : List ℕ) (x : ℕ) : Type 0 where
    member : Member pairs (k, x)
    around : Around d pairs k before
    supported : IsSupported b.start (set x ∷ map set before)
    keyed : Keyed before (set x)

  abbrev Exact : List ℕ → ℕ → List Letter → Type 0
  Exact before x w =
      AcceptsFrom d before x w ↔ (AcceptsFrom a (map first before) (first x) w × (SomeAccepts b (set x ∷ map set before) w → ⊥))

  abbrev ExactOn : List Letter → Type 0
  ExactOn w = (k : Option ℕ) (before : List ℕ) (x : ℕ) → Stands k before x → Exact before x w

  abbrev Left : List ℕ → ℕ → Kind → Letter → List Letter → Type 0
  Left before x kind l w =
      (e : ℕ) × Follows a kind l (map first before) (first x) e (λ s. AcceptsFrom a s e w) × (SomeAccepts b (set x ∷ map set before) (l ∷ w) → ⊥)

  -- after a return
  returned : (n x p y : ℕ) (before : List ℕ) (l : Letter) → l.kind ≡ Back → (s : Stands (Some n) (p ∷ before) x) → Member d.backs (x, p, l, y) →
      Stands s.around.0 before y
  returned n x p y before l i s f = record {
    member = is.on.back s.around.0 p n x y s.around.1 l s.around.2 s.around.3 s.member f;
    around = s.around.4;
    supported = (back_on b l (set p) (set x) (set y) (map set before) i (is.are.back x p y l f).1).supported s.supported;
    keyed = keyed_back before l (set p) (set x) (set y) (is.are.back x p y l f).1 s.keyed.1;
  }

  to_back : (l : Letter) (w : List Letter) (k : Option ℕ) (p : ℕ) (before : List ℕ) (x y : ℕ) → l.kind ≡ Back → Stands k (p ∷ before) x → ExactOn w →
      Member d.backs (x, p, l, y) → AcceptsFrom d before y w → Left (p ∷ before) x Back l w
  to_back l w None p before x y i s ih f g = absurd s.around
  to_back l w (Some n) p before x y i s ih f g =
      let e = is.are.back x p y l f in
      let on = back_on b l (set p) (set x) (set y) (map set before) i e.1 in
      let same = on.same w in
      let exact = ih s.around.0 before y (returned n x p y before l i s f) in
      let h = exact.0 g in
      (first y, (e.0, h.0), λ t. h.1 (same.0 t))

  to_step : (kind : Kind) (l : Letter) (w : List Letter) (k : Option ℕ) (before : List ℕ) (x y : ℕ) → l.kind ≡ kind → Stands k before x → ExactOn w →
      Follows d kind l before x y (λ s. AcceptsFrom d s y w) → Left before x kind l w
  to_step Inside l w k before x y i s ih f =
      let e = is.are.inside x y l f.0 in
      let on = inside_on b l (set x) (set y) (map set before) i e.1 in
      let same = on.same w in
      let exact =
      ih k before y (record {
        member = is.on.inside k x y l s.member f.0;
        around = s.around;
        supported = on.supported s.supported;
        keyed = keyed_inside before l (set x) (set y) e.1 s.keyed;
      }) in
      let h = exact.0 f.1 in
      (first y, (e.0, h.0), λ t. h.1 (same.0 t))
  to_step Call l w k before x y i s ih f =
      let e = is.are.call x y l f.0 in
      let on = call_on b l (set x) (set y) (map set before) i e.1 in
      let same = on.same w in
      let exact =
      ih (Some y) (x ∷ before) y (record {
        member = is.on.call k x y l s.member f.0;
        around = (k, l, s.member, f.0, s.around);
        supported = on.supported s.supported;
        keyed = keyed_call before x (first y) l (set y) e.0 e.1 s.keyed;
      }) in
      let h = exact.0 f.1 in
      (first y, (e.0, h.0), λ t. h.1 (same.0 t))
  to_step Back l w k [] x y i s ih f = absurd f
  to_step Back l w k (p ∷ before) x y i s ih f = to_back l w k p before x y i s ih f.0 f.1

  from_back : (l : Letter) (w : List Letter) (k : Option ℕ) (p : ℕ) (before : List ℕ) (x e : ℕ) → l.kind ≡ Back → Stands k (p ∷ before) x → ExactOn w →
      Member a.backs (first x, first p, l, e) → AcceptsFrom a (map first before) e w →
      (SomeAccepts b (set x ∷ map set (p ∷ before)) (l ∷ w) → ⊥) →
      (y : ℕ) × Follows d Back l (p ∷ before) x y (λ s. AcceptsFrom d s y w)
  from_back l w None p before x e i s ih f g none = absurd s.around
  from_back l w (Some n) p before x e i s ih f g none =
      let r = s.around in
      elim (is.has.back r.0 p n x e r.1 l r.2 r.3 s.member f) [
        | inl m ↦
            let y : ℕ = m.0 in
            let on = back_on b l (set p) (set x) (set y) (map set before) i (is.are.back x p y l m.1).1 in
            let same = on.same w in
            let exact = ih r.0 before y (returned n x p y before l i s m.1) in
            (y, (m.1, exact.1 (subst (λ (q : ℕ). AcceptsFrom a (map first before) q w) (sym m.2) g, λ t. none (same.1 t))))
        | inr c ↦
            let on = back_on b l (set p) (set x) c.set (map set before) i c.of in
            let same = on.same w in
            absurd (none (same.1 (covered_accepts before c.set e w c.covered (on.supported s.supported)
            (keyed_back before l (set p) (set x) c.set c.of s.keyed.1) g)))
      ]

  from_step : (kind : Kind) (l : Letter) (w : List Letter) (k : Option ℕ) (before : List ℕ) (x e : ℕ) → l.kind ≡ kind → Stands k before x → ExactOn w →
      Follows a kind l (map first before) (first x) e (λ s. AcceptsFrom a s e w) →
      (SomeAccepts b (set x ∷ map set before) (l ∷ w) → ⊥) →
      (y : ℕ) × Follows d kind l before x y (λ s. AcceptsFrom d s y w)
  from_step Inside l w k before x e i s ih f none =
      elim (is.has.inside k x e l s.member f.0) [
        | inl m ↦
            let y : ℕ = m.0 in
            let of = (is.are.inside x y l m.1).1 in
            let on = inside_on b l (set x) (set y) (map set before) i of in
            let same = on.same w in
            let exact =
            ih k before y (record {
              member = is.on.inside k x y l s.member m.1;
              around = s.around;
              supported = on.supported s.supported;
              keyed = keyed_inside before l (set x) (set y) of s.keyed;
            }) in
            (y, (m.1, exact.1 (subst (λ (q : ℕ). AcceptsFrom a (map first before) q w) (sym m.2) f.1, λ t. none (same.1 t))))
        | inr c ↦
            let on = inside_on b l (set x) c.set (map set before) i c.of in
            let same = on.same w in
            absurd (none (same.1 (covered_accepts before c.set e w c.covered (on.supported s.supported)
            (keyed_inside before l (set x) c.set c.of s.keyed) f.1)))
      ]
  from_step Call l w k before x e i s ih f none =
      elim (is.has.call k x e l s.member f.0) [
        | inl m ↦
            let y : ℕ = m.0 in
            let are = is.are.call x y l m.1 in
            let on = call_on b l (set x) (set y) (map set before) i are.1 in
            let same = on.same w in
            let exact =
            ih (Some y) (x ∷ before) y (record {
              member = is.on.call k x y l s.member m.1;
              around = (k, l, s.member, m.1, s.around);
              supported = on.supported s.supported;
              keyed = keyed_call before x (first y) l (set y) are.0 are.1 s.keyed;
            }) in
            (y, (m.1, exact.1 (subst (λ (q : ℕ). AcceptsFrom a (first x ∷ map first before) q w) (sym m.2) f.1, λ t. none (same.1 t))))
        | inr c ↦
            let on = call_on b l (set x) c.set (map set before) i c.of in
            let same = on.same w in
            absurd (none (same.1 (covered_accepts (x ∷ before) c.set e w c.covered (on.supported s.supported)
            (keyed_call before x e l c.set f.0 c.of s.keyed) f.1)))
      ]
  from_step Back l w k [] x e i s ih f none = absurd f
  from_step Back l w k (p ∷ before) x e i s ih f none = from_back l w k p before x e i s ih f.0 f.1 none

  exact_on : (w : List Letter) → ExactOn w
  exact_on [] k before x s =
      let f = is.finals k x s.member in
      let end = at_end b (set x) (map set before) s.supported in
      (λ h. let g = f.0 h in (g.0, λ t. g.1 (end.0 t)), λ h. f.1 (h.0, λ t. h.1 (end.1 t)))
  exact_on (l ∷ w) k before x s = (
    λ h. let r = to_step l.kind l w k before x h.0 refl s (exact_on w) h.1 in ((r.0, r.1), r.2),
    λ h. from_step l.kind l w k before x h.0.0 refl s (exact_on w) h.0.1 h.1,
  )

  start_key : (k q : ℕ) → Member {X = ℕ × ℕ} ((b.start, b.start) ∷ []) (k, q) → k ≡ b.start
  start_key k q (inl e) = sym (ap (λ (x : ℕ × ℕ). x.0) e)
  start_key k q (inr e) = absurd e

  pub product_exact : (w : List Letter) → Accepts d w ↔ (Accepts a w × (Accepts b w → ⊥))
  product_exact w =
      let exact = exact_on w None [] d.start (record {
        member = is.on.start;
        around = tt;
        supported = λ k q h. start_key k q (subst (λ (l : List (ℕ × ℕ)). Member {X = ℕ × ℕ} l (k, q)) is.start_set h);
        keyed = tt;
      }) in
      let begin = at_start b w in
      let some : SomeAccepts b (set d.start ∷ []) w → Accepts b w =
      λ t. begin.0 (subst (λ (l : List (ℕ × ℕ)). SomeAccepts b (l ∷ []) w) is.start_set t) in
      let same : Accepts b w → SomeAccepts b (set d.start ∷ []) w =
      λ t. subst (λ (l : List (ℕ × ℕ)). SomeAccepts b (l ∷ []) w) (sym is.start_set) (begin.1 t) in (
        λ h. let r = exact.0 h in (subst (λ (q : ℕ). AcceptsFrom a [] q w) is.start r.0, λ t. r.1 (same t)),
        λ h. exact.1 (subst (λ (q : ℕ). AcceptsFrom a [] q w) (sym is.start) h.0, λ t. h.1 (some t)),
      )
