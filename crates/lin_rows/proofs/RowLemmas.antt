-- The terms of a row are determined by their coefficients, and given terms add up to a row where each sum fits.
use Rattle.std.proofs.Common.{◌≡◌, ℕ, ℤ, ◌+ℤ◌, ◌*ℤ◌, List, [], ◌∷◌, ◌++◌, length, refl, sym, subst}
use Rattle.std.specs.List.{AllByRecursion}
use Rattle.std.proofs.lemmas.List.{take_all}
use Rattle.std.proofs.Math.Nat.{le_refl}
use Rattle.math_facts.specs.Fits.{Fits}
use Rattle.math_facts.specs.Terms.{coefficient, scaled}
use Rattle.lin_rows.specs.declared.types.RowKind.{RowKind}
use Rattle.lin_rows.specs.Rows.{LinearRow, IsCoefficient, IsRow}
use Rattle.lin_rows.specs.Sums.{summed, row_of, SumsFit, sum_kind, scaled_sum}
use Rattle.lin_rows.specs.Ties.Merging.{AreTerms, AreMerged}
use Rattle.lin_rows.specs.Ties.Making.{AreSummed}
use Rattle.lin_rows.proofs.Ascending.{HasNoZero, same_from_coefficients, Fits-from_columns}
use Rattle.lin_rows.proofs.SummedLaws.{coefficient-summed, AscendsFrom-summed, HasNoZero-summed, summed_from_coefficients, scaled_sum_from_coefficients}

-- the terms of a row have no coefficient 0
pub HasNoZero-terms : (ts : List (ℕ × ℤ)) → AllByRecursion IsCoefficient ts → HasNoZero ts
HasNoZero-terms [] h = tt
HasNoZero-terms (t ∷ ts) h = (h.0.is_not_zero, HasNoZero-terms ts h.1)

pub IsCoefficient-from_parts : (ts : List (ℕ × ℤ)) → HasNoZero ts → AllByRecursion (λ t. Fits t.1) ts → AllByRecursion IsCoefficient ts
IsCoefficient-from_parts [] n f = tt
IsCoefficient-from_parts (t ∷ ts) n f = (record { is_not_zero = n.0; fits = f.0 }, IsCoefficient-from_parts ts n.1 f.1)

-- the terms of a row are determined by their coefficients
pub terms_are_summed : (given sum : List (ℕ × ℤ)) → AreTerms sum → ((c : ℕ) → coefficient c sum ≡ coefficient c given) → sum ≡ summed given
terms_are_summed given sum t h = summed_from_coefficients given sum t.ascends (HasNoZero-terms sum t.coefficients) h

-- rows with the same coefficients have the same terms
pub same_terms : (a b : LinearRow) → IsRow a → IsRow b → ((c : ℕ) → coefficient c a.terms ≡ coefficient c b.terms) → a.terms ≡ b.terms
same_terms a b v w h = same_from_coefficients 0 a.terms b.terms v.ascends w.ascends (HasNoZero-terms a.terms v.coefficients) (HasNoZero-terms b.terms w.coefficients) h

-- terms in order are their own sum
pub summed_of_terms : (r : LinearRow) → IsRow r → summed r.terms ≡ r.terms
summed_of_terms r v = sym (summed_from_coefficients r.terms r.terms v.ascends (HasNoZero-terms r.terms v.coefficients) (λ c. refl))

-- the sum has the terms of a row, where each coefficient fits
pub AreTerms-summed : (ts : List (ℕ × ℤ)) → ((c : ℕ) → Fits (coefficient c ts)) → AreTerms (summed ts)
AreTerms-summed ts f = record {
  ascends = AscendsFrom-summed ts;
  coefficients = IsCoefficient-from_parts (summed ts) (HasNoZero-summed ts)
      (Fits-from_columns 0 (summed ts) (AscendsFrom-summed ts) (λ c. subst Fits (sym (coefficient-summed c ts)) (f c)));
}

-- where each running sum fits, so does each whole sum
pub Fits-coefficient : (given : List (ℕ × ℤ)) (bound : ℤ) → SumsFit given bound → (c : ℕ) → Fits (coefficient c given)
Fits-coefficient given bound h c =
    subst (λ (ts : List (ℕ × ℤ)). Fits (coefficient c ts)) (take_all (length given) given (le_refl (length given))) (h.sums c (length given))

-- the row of given terms is a row
pub IsRow-row_of : (given : List (ℕ × ℤ)) (kind : RowKind) (bound : ℤ) → SumsFit given bound → IsRow (row_of given kind bound)
IsRow-row_of given kind bound h =
    let t : AreTerms (summed given) = AreTerms-summed given (Fits-coefficient given bound h) in
    record { ascends = t.ascends; coefficients = t.coefficients; bound_fits = h.bound_fits }

-- a row made from the parts of `a + m*b`
pub scaled_sum_from_parts : (a : LinearRow) (m : ℤ) (b : LinearRow) (sum : List (ℕ × ℤ)) (kind : RowKind) (bound : ℤ) →
    AreMerged a.terms m b.terms sum → kind ≡ sum_kind a.kind b.kind → bound ≡ a.bound +ℤ (m *ℤ b.bound) →
    ◌≡◌ {A = LinearRow} (record { terms = sum; kind = kind; bound = bound }) (scaled_sum a m b)
scaled_sum_from_parts a m b sum kind bound s k e =
    let t : sum ≡ summed (a.terms ++ scaled m b.terms) =
    scaled_sum_from_coefficients a.terms m b.terms sum s.terms.ascends (HasNoZero-terms sum s.terms.coefficients) s.coefficients in
    λ i. record { terms = t i; kind = k i; bound = e i }

-- a row made from the sum of given terms
pub row_of_from_sum : (given sum : List (ℕ × ℤ)) (kind : RowKind) (bound : ℤ) → AreSummed given sum →
    ◌≡◌ {A = LinearRow} (record { terms = sum; kind = kind; bound = bound }) (row_of given kind bound)
row_of_from_sum given sum kind bound s =
    let t : sum ≡ summed given = terms_are_summed given sum s.terms s.coefficients in
    λ i. record { terms = t i; kind = kind; bound = bound }
