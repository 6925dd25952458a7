-- Rows that follow from others at all rational points.
use Rattle.std.proofs.Common.{◌≡◌, ℕ, zero, suc, ◌<◌, ℤ, pos, ◌+ℤ◌, ◌*ℤ◌, ◌≤ℤ◌, ◌<ℤ◌, List, [], ◌∷◌, length, get_or, Option, None, Some, Result, Ok, Err, sym, ◌∙◌, subst, arith}
use Rattle.std.specs.Prelude.{IfOk, IfSome}
use Rattle.std.specs.declared.alloc.AllocError.{AllocError}
use Rattle.std.proofs.lemmas.Int.{ints}
use Rattle.math_facts.specs.Terms.{dot}
use Rattle.math_facts.proofs.Whole.{product_comm, product_assoc, product_zero_left, product_zero_right, distrib_right, cancel_order, positive_cancel}
use Rattle.lin_rows.specs.declared.types.RowFault.{RowFault}
use Rattle.lin_rows.specs.declared.types.RowKind.{RowKind}
use Rattle.lin_rows.specs.declared.types.RowKind.TheVariants.{Le, Eq}
use Rattle.lin_rows.specs.Rows.{LinearRow, Stands}
use Rattle.lin_rows.specs.Sums.{sum_kind, CanScale, scaled_sum}
use Rattle.lin_rows.proofs.HoldsLaws.{holds-scaled_sum}
use Rattle.fm_elim.specs.Worth.{IsSolvable}
use Rattle.int_decide.specs.Ties.Picking.{Implies}

-- `0 = 0` follows
pub nothing_implied : (rows : List LinearRow) (r : LinearRow) → r ≡ record { terms = []; kind = Eq; bound = pos 0 } → Implies rows r
nothing_implied rows r e =
    subst (λ (q : LinearRow). Implies rows q) (sym e) (λ d p all. let z : pos 0 *ℤ d ≡ pos 0 = product_zero_left d in (let g : pos 0 ≡ pos 0 *ℤ d = sym z in g))

-- sums follow
pub sum_implied : (rows : List LinearRow) (a : LinearRow) (m : ℤ) (b : LinearRow) → CanScale m b.kind → Implies rows a → Implies rows b → Implies rows (scaled_sum a m b)
sum_implied rows a m b s h i d p all =
    let widened : LinearRow → LinearRow = λ r. record { terms = r.terms; kind = r.kind; bound = r.bound *ℤ d } in
    let e : (a.bound +ℤ (m *ℤ b.bound)) *ℤ d ≡ (a.bound *ℤ d) +ℤ ((m *ℤ b.bound) *ℤ d) = distrib_right a.bound (m *ℤ b.bound) d in
    let f : (m *ℤ b.bound) *ℤ d ≡ m *ℤ (b.bound *ℤ d) = product_assoc m b.bound d in
    let g : (a.bound *ℤ d) +ℤ (m *ℤ (b.bound *ℤ d)) ≡ (a.bound +ℤ (m *ℤ b.bound)) *ℤ d = omega (arith, ints) in
    subst (λ (x : ℤ). Stands (sum_kind a.kind b.kind) (dot p (scaled_sum a m b).terms) x) g
    (holds-scaled_sum p (widened a) m (widened b) s (h d p all) (i d p all))

-- what follows from rows and has no point leaves them none
pub none_from : (rows : List LinearRow) (r : LinearRow) → Implies rows r → (IsSolvable (r ∷ []) → ⊥) → IsSolvable rows → ⊥
none_from rows r h n s = n (record { d = s.d; p = s.p; positive = s.positive; holds = (h s.d s.p s.holds, tt) })

-- each of the rows follows
pub row_implied : (rows : List LinearRow) (i : ℕ) (d : LinearRow) → i < length rows → Implies rows (get_or rows i d)
row_implied [] i d l = absurd (omega arith)
row_implied (r ∷ rs) zero d l = λ e p all. all.0
row_implied (r ∷ rs) (suc i) d l = λ e p all. row_implied rs i d (omega arith) e p all.1

positive_product : (b d : ℤ) → pos 0 <ℤ d → pos 0 ≤ℤ (b *ℤ d) → pos 0 ≤ℤ b
positive_product b d q h =
    let e : b *ℤ d ≡ d *ℤ b = product_comm b d in
    let z : d *ℤ pos 0 ≡ pos 0 = product_zero_right d in
    cancel_order d (pos 0) b q (omega (arith, ints))

zero_product : (b d : ℤ) → pos 0 <ℤ d → pos 0 ≡ b *ℤ d → pos 0 ≡ b
zero_product b d q h = positive_cancel d (pos 0) b q (product_zero_right d ∙ h ∙ product_comm b d)

unscaled : (k : RowKind) (b d : ℤ) → pos 0 <ℤ d → Stands k (pos 0) (b *ℤ d) → Stands k (pos 0) b
unscaled Le b d q h = positive_product b d q h
unscaled Eq b d q h = zero_product b d q h

-- a row without terms that does not hold has no point
pub false_has_none : (r : LinearRow) → r.terms ≡ [] → (Stands r.kind (pos 0) r.bound → ⊥) → IsSolvable (r ∷ []) → ⊥
false_has_none r e n s =
    let h : Stands r.kind (pos 0) (r.bound *ℤ s.d) = subst (λ (ts : List (ℕ × ℤ)). Stands r.kind (dot s.p ts) (r.bound *ℤ s.d)) e s.holds.0 in
    n (unscaled r.kind r.bound s.d s.positive h)

-- a sum that was made follows
pub made_implied : (a b : LinearRow) (m : ℤ) (made : Result LinearRow RowFault) (result : Result (Option LinearRow) AllocError) → CanScale m b.kind →
    IfOk made (λ r. r ≡ scaled_sum a m b) → IfOk result (λ o. IfSome o (λ r. made ≡ Ok r)) →
    IfOk result (λ o. IfSome o (λ r. (rows : List LinearRow) → Implies rows a → Implies rows b → Implies rows r))
made_implied a b m made (Err e) s v k = tt
made_implied a b m made (Ok None) s v k = tt
made_implied a b m made (Ok (Some r)) s v k = λ rows h i.
    let e : r ≡ scaled_sum a m b = subst (λ (x : Result LinearRow RowFault). IfOk x (λ q. q ≡ scaled_sum a m b)) k v in
    subst (λ (q : LinearRow). Implies rows q) (sym e) (sum_implied rows a m b s h i)
