-- The negation of an inequality: it is a row, and holds at exactly the other points.
use Rattle.std.proofs.Common.{◌≡◌, ◌≢◌, ◌↔◌, ℕ, ◌+◌, ℤ, pos, neg_ℤ, ◌≤ℤ◌, ◌<ℤ◌, List, [], ◌∷◌, sym, subst, arith}
use Rattle.std.specs.List.{AllByRecursion}
use Rattle.std.proofs.lemmas.Int.{ints, by_lt_z}
use Rattle.math_facts.specs.Fits.{Fits}
use Rattle.math_facts.specs.Terms.{dot, opposite}
use Rattle.math_facts.proofs.TermLaws.{dot-opposite}
use Rattle.lin_rows.specs.declared.types.RowKind.{RowKind}
use Rattle.lin_rows.specs.declared.types.RowKind.TheVariants.{Le}
use Rattle.lin_rows.specs.Rows.{LinearRow, AscendsFrom, IsCoefficient, IsRow, Stands, Holds}
use Rattle.lin_rows.specs.Negating.{below_opposite, negated}

AscendsFrom-opposite : (c : ℕ) (ts : List (ℕ × ℤ)) → AscendsFrom c ts → AscendsFrom c (opposite ts)
AscendsFrom-opposite c [] h = tt
AscendsFrom-opposite c (t ∷ ts) h = (h.0, AscendsFrom-opposite (t.0 + 1) ts h.1)

IsCoefficient-opposite : (ts : List (ℕ × ℤ)) → AllByRecursion IsCoefficient ts → AllByRecursion IsCoefficient (opposite ts)
IsCoefficient-opposite [] h = tt
IsCoefficient-opposite (t ∷ ts) h = (
  record {
    is_not_zero = let n = h.0.is_not_zero in let k : neg_ℤ t.1 ≢ pos 0 = omega (arith, ints) in k;
    fits = let f : Fits t.1 = h.0.fits in let k : Fits (neg_ℤ t.1) = omega (arith, ints) in k;
  },
  IsCoefficient-opposite ts h.1,
)

-- the negation is a row, where its bound fits
pub negated_is_row : (r : LinearRow) → IsRow r → Fits (below_opposite r.bound) → IsRow (negated r)
negated_is_row r v f = record {
  ascends = AscendsFrom-opposite 0 r.terms v.ascends;
  coefficients = IsCoefficient-opposite r.terms v.coefficients;
  bound_fits = f;
}

-- `-s <= -b-1` exactly where `s <= b` fails
negated_stands : (s b : ℤ) → (neg_ℤ s ≤ℤ below_opposite b) ↔ ((s ≤ℤ b) → ⊥)
negated_stands s b = (
  λ h k. absurd (omega (arith, ints)),
  λ n. by_lt_z b s (λ (l : b <ℤ s). omega (arith, ints)) (λ (l : s ≤ℤ b). absurd (n l)),
)

-- it holds at exactly the points where the inequality does not
pub negated_holds : (point : ℕ → ℤ) (r : LinearRow) → r.kind ≡ Le → Holds point (negated r) ↔ (Holds point r → ⊥)
negated_holds point r e =
    subst (λ (k : RowKind). Holds point (negated r) ↔ (Stands k (dot point r.terms) r.bound → ⊥)) (sym e)
    (subst (λ (z : ℤ). (z ≤ℤ below_opposite r.bound) ↔ ((dot point r.terms ≤ℤ r.bound) → ⊥)) (sym (dot-opposite point r.terms)) (negated_stands (dot point r.terms) r.bound))
