-- Where each value is rounded down, difference rows go on to hold.
use Rattle.std.proofs.Common.{◌≡◌, inl, inr, ℕ, ◌<◌, ℤ, pos, negsuc, neg_ℤ, ◌+ℤ◌, ◌-ℤ◌, ◌*ℤ◌, ◌≤ℤ◌, ◌<ℤ◌, List, [], ◌∷◌, sym, ap, ◌∙◌, subst, arith}
use Rattle.std.specs.Int.{int_div_euclid}
use Rattle.std.proofs.lemmas.Int.{ints}
use Rattle.math_facts.specs.Terms.{dot}
use Rattle.math_facts.proofs.Whole.{product_comm, product_swap, product_one_left, product_one_right, product_zero_right, product_neg_left, distrib_left, product_monotone, product_strict, cancel_order, cancel_strict, positive_cancel}
use Rattle.math_facts.proofs.Division.{floor_below, floor_above}
use Rattle.lin_rows.specs.declared.types.RowKind.{RowKind}
use Rattle.lin_rows.specs.declared.types.RowKind.TheVariants.{Le, Eq}
use Rattle.lin_rows.specs.Rows.{LinearRow, Stands}
use Rattle.fm_elim.specs.Worth.{HoldsAt}
use Rattle.int_decide.specs.DifferenceRows.Differences.{AreOfDifference, IsDifference}

-- the value x/d rounded down is q
pub record IsRounded (d x q : ℤ) : Type 0 where
  pub below : (q *ℤ d) ≤ℤ x
  pub above : x <ℤ ((q +ℤ pos 1) *ℤ d)

-- ---- one bound, x <= b*d or b*d <= x

upper : (d x q b : ℤ) → pos 0 <ℤ d → IsRounded d x q → x ≤ℤ (b *ℤ d) → q ≤ℤ b
upper d x q b p r h =
    let e : q *ℤ d ≡ d *ℤ q = product_comm q d in
    let f : b *ℤ d ≡ d *ℤ b = product_comm b d in
    let low : (q *ℤ d) ≤ℤ x = r.below in
    cancel_order d q b p (omega (arith, ints))

lower : (d x q b : ℤ) → pos 0 <ℤ d → IsRounded d x q → (b *ℤ d) ≤ℤ x → b ≤ℤ q
lower d x q b p r h =
    let e : (q +ℤ pos 1) *ℤ d ≡ d *ℤ (q +ℤ pos 1) = product_comm (q +ℤ pos 1) d in
    let f : b *ℤ d ≡ d *ℤ b = product_comm b d in
    let high : x <ℤ ((q +ℤ pos 1) *ℤ d) = r.above in
    let m : b <ℤ (q +ℤ pos 1) = cancel_strict d b (q +ℤ pos 1) (omega (arith, ints)) (omega (arith, ints)) in
    omega (arith, ints)

-- ---- a difference, x - y <= b*d

difference : (d x q y s b : ℤ) → pos 0 <ℤ d → IsRounded d x q → IsRounded d y s → (x -ℤ y) ≤ℤ (b *ℤ d) → (q -ℤ s) ≤ℤ b
difference d x q y s b p r t h =
    let e : q *ℤ d ≡ d *ℤ q = product_comm q d in
    let f : b *ℤ d ≡ d *ℤ b = product_comm b d in
    let g : (s +ℤ pos 1) *ℤ d ≡ d *ℤ (s +ℤ pos 1) = product_comm (s +ℤ pos 1) d in
    let both : d *ℤ (b +ℤ (s +ℤ pos 1)) ≡ (d *ℤ b) +ℤ (d *ℤ (s +ℤ pos 1)) = distrib_left d b (s +ℤ pos 1) in
    let low : (q *ℤ d) ≤ℤ x = r.below in
    let high : y <ℤ ((s +ℤ pos 1) *ℤ d) = t.above in
    let m : q <ℤ (b +ℤ (s +ℤ pos 1)) = cancel_strict d q (b +ℤ (s +ℤ pos 1)) (omega (arith, ints)) (omega (arith, ints)) in
    omega (arith, ints)

-- ---- sums of the terms

one_sum : (a x : ℤ) → a ≡ pos 1 → (a *ℤ x) +ℤ pos 0 ≡ x
one_sum a x e = let f : a *ℤ x ≡ x = ap (λ (m : ℤ). m *ℤ x) e ∙ product_one_left x in omega (arith, ints)

other_sum : (a x : ℤ) → a ≡ negsuc 0 → (a *ℤ x) +ℤ pos 0 ≡ neg_ℤ x
other_sum a x e =
    let f : a *ℤ x ≡ neg_ℤ (pos 1 *ℤ x) = ap (λ (m : ℤ). m *ℤ x) e ∙ product_neg_left (pos 1) x in
    let g : pos 1 *ℤ x ≡ x = product_one_left x in
    omega (arith, ints)

two_sum : (a x b y : ℤ) → a ≡ pos 1 → b ≡ negsuc 0 → (a *ℤ x) +ℤ ((b *ℤ y) +ℤ pos 0) ≡ x -ℤ y
two_sum a x b y e f =
    let g : a *ℤ x ≡ x = ap (λ (m : ℤ). m *ℤ x) e ∙ product_one_left x in
    let h : (b *ℤ y) +ℤ pos 0 ≡ neg_ℤ y = other_sum b y f in
    omega (arith, ints)

swapped_sum : (a x b y : ℤ) → a ≡ negsuc 0 → b ≡ pos 1 → (a *ℤ x) +ℤ ((b *ℤ y) +ℤ pos 0) ≡ y -ℤ x
swapped_sum a x b y e f =
    let g : (a *ℤ x) +ℤ pos 0 ≡ neg_ℤ x = other_sum a x e in
    let h : (b *ℤ y) +ℤ pos 0 ≡ y = one_sum b y f in
    omega (arith, ints)

-- ---- sums that are bounded

one_stands : (k : RowKind) (d x q b : ℤ) → pos 0 <ℤ d → IsRounded d x q → Stands k x (b *ℤ d) → Stands k q b
one_stands Le d x q b p r h = upper d x q b p r h
one_stands Eq d x q b p r h =
    let u : q ≤ℤ b = upper d x q b p r (omega (arith, ints)) in
    let l : b ≤ℤ q = lower d x q b p r (omega (arith, ints)) in
    omega (arith, ints)

other_stands : (k : RowKind) (d x q b : ℤ) → pos 0 <ℤ d → IsRounded d x q → Stands k (neg_ℤ x) (b *ℤ d) → Stands k (neg_ℤ q) b
other_stands Le d x q b p r h =
    let e : neg_ℤ b *ℤ d ≡ neg_ℤ (b *ℤ d) = product_neg_left b d in
    let l : neg_ℤ b ≤ℤ q = lower d x q (neg_ℤ b) p r (omega (arith, ints)) in
    omega (arith, ints)
other_stands Eq d x q b p r h =
    let e : neg_ℤ b *ℤ d ≡ neg_ℤ (b *ℤ d) = product_neg_left b d in
    let l : neg_ℤ b ≤ℤ q = lower d x q (neg_ℤ b) p r (omega (arith, ints)) in
    let u : q ≤ℤ neg_ℤ b = upper d x q (neg_ℤ b) p r (omega (arith, ints)) in
    omega (arith, ints)

two_stand : (k : RowKind) (d x q y s b : ℤ) → pos 0 <ℤ d → IsRounded d x q → IsRounded d y s → Stands k (x -ℤ y) (b *ℤ d) → Stands k (q -ℤ s) b
two_stand Le d x q y s b p r t h = difference d x q y s b p r t h
two_stand Eq d x q y s b p r t h =
    let e : neg_ℤ b *ℤ d ≡ neg_ℤ (b *ℤ d) = product_neg_left b d in
    let u : (q -ℤ s) ≤ℤ b = difference d x q y s b p r t (omega (arith, ints)) in
    let l : (s -ℤ q) ≤ℤ neg_ℤ b = difference d y s x q (neg_ℤ b) p t r (omega (arith, ints)) in
    omega (arith, ints)

-- ---- rows

module _ (d : ℤ) (point rounded : ℕ → ℤ) (p : pos 0 <ℤ d) (r : (c : ℕ) → IsRounded d (point c) (rounded c)) where
  terms_stand : (k : RowKind) (ts : List (ℕ × ℤ)) (b : ℤ) → AreOfDifference ts → Stands k (dot point ts) (b *ℤ d) → Stands k (dot rounded ts) b
  terms_stand Le [] b a h =
      let m : (d *ℤ pos 0) ≤ℤ (d *ℤ b) = (let e : b *ℤ d ≡ d *ℤ b = product_comm b d in let z : d *ℤ pos 0 ≡ pos 0 = product_zero_right d in omega (arith, ints)) in
      cancel_order d (pos 0) b p m
  terms_stand Eq [] b a h = positive_cancel d (pos 0) b p (product_zero_right d ∙ h ∙ product_comm b d)
  terms_stand k (t ∷ []) b (inl e) h =
      subst (λ (z : ℤ). Stands k z b) (sym (one_sum t.1 (rounded t.0) e))
      (one_stands k d (point t.0) (rounded t.0) b p (r t.0) (subst (λ (z : ℤ). Stands k z (b *ℤ d)) (one_sum t.1 (point t.0) e) h))
  terms_stand k (t ∷ []) b (inr e) h =
      subst (λ (z : ℤ). Stands k z b) (sym (other_sum t.1 (rounded t.0) e))
      (other_stands k d (point t.0) (rounded t.0) b p (r t.0) (subst (λ (z : ℤ). Stands k z (b *ℤ d)) (other_sum t.1 (point t.0) e) h))
  terms_stand k (t ∷ u ∷ []) b (inl e) h =
      subst (λ (z : ℤ). Stands k z b) (sym (two_sum t.1 (rounded t.0) u.1 (rounded u.0) e.0 e.1))
      (two_stand k d (point t.0) (rounded t.0) (point u.0) (rounded u.0) b p (r t.0) (r u.0)
      (subst (λ (z : ℤ). Stands k z (b *ℤ d)) (two_sum t.1 (point t.0) u.1 (point u.0) e.0 e.1) h))
  terms_stand k (t ∷ u ∷ []) b (inr e) h =
      subst (λ (z : ℤ). Stands k z b) (sym (swapped_sum t.1 (rounded t.0) u.1 (rounded u.0) e.0 e.1))
      (two_stand k d (point u.0) (rounded u.0) (point t.0) (rounded t.0) b p (r u.0) (r t.0)
      (subst (λ (z : ℤ). Stands k z (b *ℤ d)) (swapped_sum t.1 (point t.0) u.1 (point u.0) e.0 e.1) h))
  terms_stand k (t ∷ u ∷ v ∷ ts) b a h = absurd a

  pub rounded_holds : (x : LinearRow) → IsDifference x → HoldsAt d point x → HoldsAt (pos 1) rounded x
  rounded_holds x a h =
      subst (λ (z : ℤ). Stands x.kind (dot rounded x.terms) z) (sym (product_one_right x.bound)) (terms_stand x.kind x.terms x.bound a h)

-- ---- the floor

pub floor_rounds : (num den x d : ℤ) → pos 0 <ℤ den → pos 0 <ℤ d → num *ℤ d ≡ x *ℤ den → IsRounded d x (int_div_euclid num den)
floor_rounds num (negsuc g) x d p s e = absurd (omega (arith, ints))
floor_rounds num (pos g) x d p s e =
    let q : ℤ = int_div_euclid num (pos g) in
    let z : 0 < g = omega (arith, ints) in
    let low : (pos g *ℤ q) ≤ℤ num = floor_below g num z in
    let high : num <ℤ ((pos g *ℤ q) +ℤ pos g) = floor_above g num z in
    let both : pos g *ℤ (q +ℤ pos 1) ≡ (pos g *ℤ q) +ℤ pos g = distrib_left (pos g) q (pos 1) ∙ ap (λ (y : ℤ). (pos g *ℤ q) +ℤ y) (product_one_right (pos g)) in
    let a : (d *ℤ (pos g *ℤ q)) ≤ℤ (d *ℤ num) = product_monotone d (pos g *ℤ q) num (omega (arith, ints)) low in
    let b : (d *ℤ num) <ℤ (d *ℤ (pos g *ℤ (q +ℤ pos 1))) = product_strict d num (pos g *ℤ (q +ℤ pos 1)) s (omega (arith, ints)) in
    let f : d *ℤ num ≡ pos g *ℤ x = product_comm d num ∙ e ∙ product_comm x (pos g) in
    let h : d *ℤ (pos g *ℤ q) ≡ pos g *ℤ (q *ℤ d) = product_swap d (pos g) q ∙ ap (λ (y : ℤ). pos g *ℤ y) (product_comm d q) in
    let i : d *ℤ (pos g *ℤ (q +ℤ pos 1)) ≡ pos g *ℤ ((q +ℤ pos 1) *ℤ d) =
    product_swap d (pos g) (q +ℤ pos 1) ∙ ap (λ (y : ℤ). pos g *ℤ y) (product_comm d (q +ℤ pos 1)) in
    record {
      below = cancel_order (pos g) (q *ℤ d) x p (omega (arith, ints));
      above = cancel_strict (pos g) x ((q +ℤ pos 1) *ℤ d) (omega (arith, ints)) (omega (arith, ints));
    }
