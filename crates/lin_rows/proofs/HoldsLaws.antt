-- Where the rows that are made hold: the row of given terms, and `a + m*b`.
use Rattle.std.proofs.Common.{◌≡◌, ◌↔◌, ℕ, ℤ, ◌+ℤ◌, ◌*ℤ◌, ◌≤ℤ◌, List, ap, sym, subst, arith, inl, inr}
use Rattle.std.proofs.lemmas.Int.{ints}
use Rattle.math_facts.specs.Terms.{coefficient, dot, IsBelow, with_value}
use Rattle.math_facts.proofs.Whole.{product_monotone}
use Rattle.math_facts.proofs.TermLaws.{dot_from_coefficients, dot-with_value}
use Rattle.lin_rows.specs.declared.types.RowKind.{RowKind}
use Rattle.lin_rows.specs.declared.types.RowKind.TheVariants.{Le, Eq}
use Rattle.lin_rows.specs.Rows.{LinearRow, Stands, Holds}
use Rattle.lin_rows.specs.Sums.{summed, row_of, sum_kind, scaled_sum, CanScale}
use Rattle.lin_rows.specs.Tightening.{never}
use Rattle.lin_rows.proofs.SummedLaws.{dot-summed, dot-scaled_sum}

-- ---- one row

-- Whether a row of some kind and bound holds depends on the coefficients only.
pub stands_from_coefficients : (point : ℕ → ℤ) (kind : RowKind) (a b : List (ℕ × ℤ)) (bound : ℤ) → ((c : ℕ) → coefficient c a ≡ coefficient c b) →
    Stands kind (dot point a) bound ↔ Stands kind (dot point b) bound
stands_from_coefficients point kind a b bound h =
    subst (λ (z : ℤ). Stands kind (dot point a) bound ↔ Stands kind z bound) (dot_from_coefficients point a b h) (λ k. k, λ k. k)

-- an equation holds as an inequality too
pub stands_as_inequality : (kind : RowKind) (sum bound : ℤ) → Stands kind sum bound → sum ≤ℤ bound
stands_as_inequality Le sum bound h = h
stands_as_inequality Eq sum bound h = omega (arith, ints)

-- the row of given terms holds where their value meets the bound
pub holds-row_of : (point : ℕ → ℤ) (given : List (ℕ × ℤ)) (kind : RowKind) (bound : ℤ) →
    Holds point (row_of given kind bound) ↔ Stands kind (dot point given) bound
holds-row_of point given kind bound =
    subst (λ (z : ℤ). Stands kind (dot point (summed given)) bound ↔ Stands kind z bound) (dot-summed point given) (λ k. k, λ k. k)

-- `0 <= -1` holds nowhere
pub never_holds : (point : ℕ → ℤ) → Holds point never → ⊥
never_holds point h = omega (arith, ints)

-- the value at a column past the row's terms does not count
pub holds-with_value : (point : ℕ → ℤ) (c : ℕ) (v : ℤ) (r : LinearRow) → IsBelow c r.terms → Holds (with_value point c v) r ↔ Holds point r
holds-with_value point c v r b =
    subst (λ (z : ℤ). Stands r.kind (dot (with_value point c v) r.terms) r.bound ↔ Stands r.kind z r.bound) (dot-with_value point c v r.terms b) (λ k. k, λ k. k)

-- ---- sums

-- m times a number that stands, where m is not negative or the row is an equality
scaled_stands : (m : ℤ) (kind : RowKind) (sum bound : ℤ) → CanScale m kind → Stands kind sum bound → (m *ℤ sum) ≤ℤ (m *ℤ bound)
scaled_stands m kind sum bound (inl p) h = product_monotone m sum bound p (stands_as_inequality kind sum bound h)
scaled_stands m kind sum bound (inr e) h = at_equality m sum bound (subst (λ (k : RowKind). Stands k sum bound) e h)
  where
    at_equality : (m sum bound : ℤ) → sum ≡ bound → (m *ℤ sum) ≤ℤ (m *ℤ bound)
    at_equality m sum bound h = let e : m *ℤ sum ≡ m *ℤ bound = ap (λ (z : ℤ). m *ℤ z) h in omega (arith, ints)

-- numbers that stand, added up
sum_stands : (j k : RowKind) (m s b t c : ℤ) → CanScale m k → Stands j s b → Stands k t c → Stands (sum_kind j k) (s +ℤ (m *ℤ t)) (b +ℤ (m *ℤ c))
sum_stands Le Le m s b t c p h i = let e : (m *ℤ t) ≤ℤ (m *ℤ c) = scaled_stands m Le t c p i in omega (arith, ints)
sum_stands Le Eq m s b t c p h i = let e : (m *ℤ t) ≤ℤ (m *ℤ c) = scaled_stands m Eq t c p i in omega (arith, ints)
sum_stands Eq Le m s b t c p h i = let e : (m *ℤ t) ≤ℤ (m *ℤ c) = scaled_stands m Le t c p i in omega (arith, ints)
sum_stands Eq Eq m s b t c p h i = let e : m *ℤ t ≡ m *ℤ c = ap (λ (z : ℤ). m *ℤ z) i in omega (arith, ints)

-- where a and b hold, `a + m*b` holds
pub holds-scaled_sum : (point : ℕ → ℤ) (a : LinearRow) (m : ℤ) (b : LinearRow) → CanScale m b.kind → Holds point a → Holds point b → Holds point (scaled_sum a m b)
holds-scaled_sum point a m b p h i =
    subst (λ (z : ℤ). Stands (sum_kind a.kind b.kind) z (a.bound +ℤ (m *ℤ b.bound))) (sym (dot-scaled_sum point a.terms m b.terms))
    (sum_stands a.kind b.kind m (dot point a.terms) a.bound (dot point b.terms) b.bound p h i)
