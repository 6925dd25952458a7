-- The sums of a leaf at a position, column by column.
use Rattle.std.proofs.Common.{◌≡◌, ◌∙◌, ℕ, zero, suc, ◌+◌, ◌<◌, ℤ, pos, negsuc, Bool, true, false, List, [], ◌∷◌, length, refl, sym, ap, arith, Option, None}
use Rattle.std.specs.Prelude.{◌-ℤ◌, slice_index, if◌then◌else◌}
use Rattle.std.proofs.lemmas.Int.{ints}
use Rattle.std.proofs.lemmas.Bool.{eq-eqb, ne_eqb, eqb-true}
use Rattle.math_facts.specs.Terms.{coefficient}
use Rattle.lin_rows.specs.Sums.{is_zero}
use Rattle.lin_rows.proofs.Ascending.{coefficient_below}
use Rattle.letter_acts.specs.FrameRows.Rows.{renamed}
use Rattle.nested_itp.specs.NestedPredicates.Sums.{Branch, column_upto, known_sum, column_sums, terms_from, coefficients_at}
use Rattle.nested_itp.specs.NestedRefutations.Refutations.{Claim}
use Rattle.nested_itp.proofs.NestedRefutations.ContentLaws.{renamed_at, renamed_off}
use Rattle.nested_itp.proofs.NestedRefutations.ClaimLaws.{sum_row, IsTold, terms_kept, sum_below}

-- the number at a place, 0 past the end
abbrev pub number_in : List ℤ → ℕ → ℤ
number_in [] j = pos 0
number_in (a ∷ numbers) zero = a
number_in (a ∷ numbers) (suc j) = number_in numbers j

zero_is : (a : ℤ) → is_zero a ≡ true → a ≡ pos 0
zero_is (pos n) e = ap pos (eqb-true n 0 e)
zero_is (negsuc n) e = absurd (cc)

-- the coefficients of terms are the numbers
pub coefficient_terms : (n : ℕ) (numbers : List ℤ) (j : ℕ) → coefficient (n + j) (terms_from n numbers) ≡ number_in numbers j
coefficient_terms n [] j = refl
coefficient_terms n (a ∷ numbers) zero =
    by_test (is_zero a) refl (coefficient_below (suc n) (n + 0) (terms_from (suc n) numbers) (terms_kept (suc n) numbers).0 (omega arith))
  where
    by_test : (z : Bool) → is_zero a ≡ z → coefficient (n + 0) (terms_from (suc n) numbers) ≡ pos 0 → coefficient (n + 0) (if z then terms_from (suc n) numbers else (n, a) ∷ terms_from (suc n) numbers) ≡ a
    by_test true q h = h ∙ sym (zero_is a q)
    by_test false q h = rw (eq-eqb n (n + 0) (omega arith)) (omega (arith, ints, h))
coefficient_terms n (a ∷ numbers) (suc j) =
    by_test (is_zero a) (ap (λ (k : ℕ). coefficient k (terms_from (suc n) numbers)) (let q : n + suc j ≡ suc n + j = omega arith in q) ∙ coefficient_terms (suc n) numbers j)
  where
    by_test : (z : Bool) → coefficient (n + suc j) (terms_from (suc n) numbers) ≡ number_in numbers j →
        coefficient (n + suc j) (if z then terms_from (suc n) numbers else (n, a) ∷ terms_from (suc n) numbers) ≡ number_in numbers j
    by_test true h = h
    by_test false h = rw (ne_eqb n (n + suc j) (λ (e : n ≡ n + suc j). omega (arith, e))) (omega (arith, ints, h))

-- by which version a column is known in the caller
abbrev pub known_in : List (Option ℕ) → ℕ → Option ℕ
known_in [] j = None
known_in (k ∷ ks) zero = k
known_in (k ∷ ks) (suc j) = known_in ks j

-- a column's sum
pub number_at : (b : Branch) (parts : List (ℕ × ℤ)) (own upto : ℕ) (here : List ℕ) (known : List (Option ℕ)) (j : ℕ) → j < length here →
    number_in (column_sums b parts own upto here known) j ≡ column_upto b parts upto (slice_index here j) -ℤ known_sum b parts own (known_in known j)
number_at b parts own upto [] known j l = absurd (omega (arith, l))
number_at b parts own upto (v ∷ here) [] zero l = no_known (column_upto b parts upto v)
  where
    no_known : (z : ℤ) → z ≡ z -ℤ pos 0
    no_known z = omega (arith, ints)
number_at b parts own upto (v ∷ here) [] (suc j) l = number_at b parts own upto here [] j (omega (arith, l))
number_at b parts own upto (v ∷ here) (k ∷ known) zero l = refl
number_at b parts own upto (v ∷ here) (k ∷ known) (suc j) l = number_at b parts own upto here known j (omega (arith, l))

-- what a claim's sum has at the system's column of a column of the frame
pub claim_at : (c : Claim) (b : Branch) (parts : List (ℕ × ℤ)) → IsTold c → (j : ℕ) → j < length c.position.here →
    coefficient (c.column j) (renamed c.column (sum_row c b parts)).terms ≡
    column_upto b parts c.position.upto (slice_index c.position.here j) -ℤ known_sum b parts c.position.scope.own (known_in c.position.scope.known j)
claim_at c b parts told j l =
    renamed_at (length c.position.here) c.column told (sum_row c b parts) (sum_below c b parts) j l ∙
    ap (λ (k : ℕ). coefficient k (terms_from 0 (coefficients_at b parts c.position))) (let q : j ≡ 0 + j = omega arith in q) ∙
    coefficient_terms 0 (coefficients_at b parts c.position) j ∙
    number_at b parts c.position.scope.own c.position.upto c.position.here c.position.scope.known j l

-- and at any other
pub claim_off : (c : Claim) (b : Branch) (parts : List (ℕ × ℤ)) (x : ℕ) → ((j : ℕ) → j < length c.position.here → c.column j ≡ x → ⊥) →
    coefficient x (renamed c.column (sum_row c b parts)).terms ≡ pos 0
claim_off c b parts x off = renamed_off (length c.position.here) c.column x off (sum_row c b parts) (sum_below c b parts)
