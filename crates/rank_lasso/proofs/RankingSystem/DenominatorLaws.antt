-- Rational points: a point over another denominator is the same point.
use Rattle.std.proofs.Common.{◌≡◌, ◌∙◌, ℕ, ℤ, pos, ◌+ℤ◌, ◌*ℤ◌, ◌≤ℤ◌, ◌<ℤ◌, List, [], ◌∷◌, sym, ap, arith}
use Rattle.std.proofs.lemmas.Int.{ints}
use Rattle.math_facts.specs.Terms.{dot}
use Rattle.math_facts.proofs.Whole.{product_comm, product_assoc, product_monotone, product_zero_left, product_zero_right, distrib_right, distrib_left, product_swap, cancel_order, positive_cancel}
use Rattle.lin_rows.specs.declared.types.RowKind.{RowKind}
use Rattle.lin_rows.specs.declared.types.RowKind.TheVariants.{Le, Eq}
use Rattle.lin_rows.specs.Rows.{LinearRow, Stands}
use Rattle.fm_elim.specs.Worth.{HoldsAt}

-- values over d and over e, times the other denominator
dot_over : (p q : ℕ → ℤ) (d e : ℤ) → ((c : ℕ) → q c *ℤ d ≡ p c *ℤ e) → (ts : List (ℕ × ℤ)) → dot q ts *ℤ d ≡ dot p ts *ℤ e
dot_over p q d e h [] = product_zero_left d ∙ sym (product_zero_left e)
dot_over p q d e h (t ∷ ts) =
    let r : dot q ts *ℤ d ≡ dot p ts *ℤ e = dot_over p q d e h ts in
    let a : (t.1 *ℤ q t.0) *ℤ d ≡ (t.1 *ℤ p t.0) *ℤ e =
    product_assoc t.1 (q t.0) d ∙ ap (λ (z : ℤ). t.1 *ℤ z) (h t.0) ∙ sym (product_assoc t.1 (p t.0) e) in
    let f : ((t.1 *ℤ q t.0) +ℤ dot q ts) *ℤ d ≡ ((t.1 *ℤ q t.0) *ℤ d) +ℤ (dot q ts *ℤ d) = distrib_right (t.1 *ℤ q t.0) (dot q ts) d in
    let i : ((t.1 *ℤ p t.0) +ℤ dot p ts) *ℤ e ≡ ((t.1 *ℤ p t.0) *ℤ e) +ℤ (dot p ts *ℤ e) = distrib_right (t.1 *ℤ p t.0) (dot p ts) e in
    omega (arith, ints)

stands_over : (kind : RowKind) (x y b d e : ℤ) → pos 0 <ℤ d → pos 0 <ℤ e → y *ℤ d ≡ x *ℤ e → Stands kind x (b *ℤ d) → Stands kind y (b *ℤ e)
stands_over Le x y b d e p q h s =
    let m : (e *ℤ x) ≤ℤ (e *ℤ (b *ℤ d)) = product_monotone e x (b *ℤ d) (omega (arith, ints)) s in
    let i : e *ℤ x ≡ x *ℤ e = product_comm e x in
    let j : e *ℤ (b *ℤ d) ≡ d *ℤ (b *ℤ e) = over e b d in
    let k : y *ℤ d ≡ d *ℤ y = product_comm y d in
    cancel_order d y (b *ℤ e) p (omega (arith, ints))
  where
    over : (e b d : ℤ) → e *ℤ (b *ℤ d) ≡ d *ℤ (b *ℤ e)
    over e b d = product_comm e (b *ℤ d) ∙ ap (λ (z : ℤ). z *ℤ e) (product_comm b d) ∙ product_assoc d b e
stands_over Eq x y b d e p q h s =
    positive_cancel d y (b *ℤ e) p
    (product_comm d y ∙ h ∙ ap (λ (z : ℤ). z *ℤ e) s ∙ ap (λ (z : ℤ). z *ℤ e) (product_comm b d) ∙ product_assoc d b e)

pub denominators_do_not_count : (p q : ℕ → ℤ) (d e : ℤ) (r : LinearRow) → pos 0 <ℤ d → pos 0 <ℤ e → ((c : ℕ) → q c *ℤ d ≡ p c *ℤ e) → HoldsAt d p r → HoldsAt e q r
denominators_do_not_count p q d e r x y h s = stands_over r.kind (dot p r.terms) (dot q r.terms) r.bound d e x y (dot_over p q d e h r.terms) s

-- ---- values times a number

pub dot-times : (m : ℤ) (p : ℕ → ℤ) (ts : List (ℕ × ℤ)) → dot (λ c. m *ℤ p c) ts ≡ m *ℤ dot p ts
dot-times m p [] = sym (product_zero_right m)
dot-times m p (t ∷ ts) =
    let r : dot (λ c. m *ℤ p c) ts ≡ m *ℤ dot p ts = dot-times m p ts in
    let a : t.1 *ℤ (m *ℤ p t.0) ≡ m *ℤ (t.1 *ℤ p t.0) = product_swap t.1 m (p t.0) in
    let f : m *ℤ ((t.1 *ℤ p t.0) +ℤ dot p ts) ≡ (m *ℤ (t.1 *ℤ p t.0)) +ℤ (m *ℤ dot p ts) = distrib_left m (t.1 *ℤ p t.0) (dot p ts) in
    omega (arith, ints)
