-- Running sums that fit, by a test and by what is asked of a row.
use Rattle.std.proofs.Common.{◌≡◌, ◌∙◌, ◌⊎◌, inl, inr, ℕ, zero, suc, ◌^◌, ℤ, pos, ◌+ℤ◌, Bool, true, false, List, [], ◌∷◌, ◌++◌, take, refl, sym, ap, subst, append_assoc, arith}
use Rattle.std.specs.Prelude.{◌&&◌, nat_lt, unsigned_abs, if◌then◌else◌}
use Rattle.std.proofs.lemmas.Int.{ints}
use Rattle.std.proofs.lemmas.List.{append-nil}
use Rattle.std.proofs.lemmas.Bool.{lt-ltb, ltb-true, false≢true, eq-eqb, ne_eqb, cases_eq}
use Rattle.math_facts.specs.Fits.{Fits}
use Rattle.math_facts.specs.Terms.{coefficient}
use Rattle.math_facts.proofs.TermLaws.{coefficient-append}
use Rattle.explained_proof.specs.FactExpressions.EntryRows.{sums_fit}

abbrev fits : ℤ → Bool
fits z = nat_lt (unsigned_abs z) (2 ^ 127)

fits_true : (z : ℤ) → Fits z → fits z ≡ true
fits_true z h = lt-ltb (unsigned_abs z) (2 ^ 127) h

true_fits : (z : ℤ) → fits z ≡ true → Fits z
true_fits z h = ltb-true (unsigned_abs z) (2 ^ 127) h

and_first : (a b : Bool) → (a && b) ≡ true → a ≡ true
and_first true b h = refl
and_first false b h = h

and_second : (a b : Bool) → (a && b) ≡ true → b ≡ true
and_second true b h = h
and_second false b h = absurd (false≢true h)

past_zero : (z : ℤ) → z +ℤ pos 0 ≡ z
past_zero z = omega (arith, ints)

-- one term more at its own column, and at another
sum_here : (before : List (ℕ × ℤ)) (t : ℕ × ℤ) → coefficient t.0 (before ++ t ∷ []) ≡ coefficient t.0 before +ℤ t.1
sum_here before t =
    coefficient-append t.0 before (t ∷ []) ∙ ap (λ b. coefficient t.0 before +ℤ ((if b then t.1 else pos 0) +ℤ pos 0)) (eq-eqb t.0 t.0 refl) ∙
    ap (λ z. coefficient t.0 before +ℤ z) (past_zero t.1)

sum_there : (c : ℕ) (before : List (ℕ × ℤ)) (t : ℕ × ℤ) → (t.0 ≡ c → ⊥) → coefficient c (before ++ t ∷ []) ≡ coefficient c before
sum_there c before t n =
    coefficient-append c before (t ∷ []) ∙ ap (λ b. coefficient c before +ℤ ((if b then t.1 else pos 0) +ℤ pos 0)) (ne_eqb t.0 c n) ∙ past_zero (coefficient c before)

-- each running sum fits
abbrev pub AllFit : List (ℕ × ℤ) → List (ℕ × ℤ) → Type 0
AllFit before ts = (c k : ℕ) → Fits (coefficient c (before ++ take k ts))

later : (before : List (ℕ × ℤ)) (t : ℕ × ℤ) (ts : List (ℕ × ℤ)) → AllFit before (t ∷ ts) → AllFit (before ++ t ∷ []) ts
later before t ts h = λ c k. subst (λ us. Fits (coefficient c us)) (sym (append_assoc before (t ∷ []) (take k ts))) (h c (suc k))

pub all_to_test : (before ts : List (ℕ × ℤ)) → AllFit before ts → sums_fit before ts ≡ true
all_to_test before [] h = refl
all_to_test before (t ∷ ts) h =
    let here : Fits (coefficient t.0 before +ℤ t.1) = subst Fits (sum_here before t) (h t.0 1) in
    ap (λ b. b && sums_fit (before ++ t ∷ []) ts) (fits_true (coefficient t.0 before +ℤ t.1) here) ∙ all_to_test (before ++ t ∷ []) ts (later before t ts h)

fits_with : (before : List (ℕ × ℤ)) (t : ℕ × ℤ) → ((c : ℕ) → Fits (coefficient c before)) → fits (coefficient t.0 before +ℤ t.1) ≡ true → (c : ℕ) → Fits (coefficient c (before ++ t ∷ []))
fits_with before t h e c = by (cases_eq t.0 c)
  where
    by : (t.0 ≡ c) ⊎ (t.0 ≡ c → ⊥) → Fits (coefficient c (before ++ t ∷ []))
    by (inl s) = subst (λ k. Fits (coefficient k (before ++ t ∷ []))) s (subst Fits (sym (sum_here before t)) (true_fits (coefficient t.0 before +ℤ t.1) e))
    by (inr n) = subst Fits (sym (sum_there c before t n)) (h c)

pub test_to_all : (before ts : List (ℕ × ℤ)) → ((c : ℕ) → Fits (coefficient c before)) → sums_fit before ts ≡ true → AllFit before ts
test_to_all before ts h e c zero = subst (λ us. Fits (coefficient c us)) (sym (append-nil before)) (h c)
test_to_all before [] h e c (suc k) = subst (λ us. Fits (coefficient c us)) (sym (append-nil before)) (h c)
test_to_all before (t ∷ ts) h e c (suc k) =
    subst (λ us. Fits (coefficient c us)) (append_assoc before (t ∷ []) (take k ts))
    (test_to_all (before ++ t ∷ []) ts (fits_with before t h (and_first (fits (coefficient t.0 before +ℤ t.1)) (sums_fit (before ++ t ∷ []) ts) e))
    (and_second (fits (coefficient t.0 before +ℤ t.1)) (sums_fit (before ++ t ∷ []) ts) e) c k)
