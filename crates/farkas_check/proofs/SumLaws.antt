-- Terms added to the numbers of their columns, one after another.
use Rattle.std.proofs.Common.{◌≡◌, ℕ, zero, suc, ◌+◌, ◌<◌, ◌≤◌, ℤ, pos, ◌+ℤ◌, ◌*ℤ◌, List, [], ◌∷◌, Some, length, take, get_or, nat_eq, ap, refl, sym, ◌∙◌, subst, inl, inr, ◌⊎◌, arith}
use Rattle.std.specs.Map.{lookup}
use Rattle.std.proofs.lemmas.Int.{ints}
use Rattle.std.proofs.lemmas.Bool.{eq-eqb, ne_eqb, cases_eq}
use Rattle.std.proofs.lemmas.List.{take_more, take_all}
use Rattle.math_facts.specs.Fits.{Fits}
use Rattle.math_facts.specs.Terms.{coefficient, with_value}
use Rattle.math_facts.specs.Optional.{or_zero}
use Rattle.math_facts.proofs.TermLaws.{coefficient-append}
use Rattle.lin_rows.specs.Rows.{AscendsFrom}
use Rattle.lin_rows.proofs.Ascending.{coefficient_first, coefficient_rest}
use Rattle.farkas_check.specs.Ties.Leaves.{AreKept, TermsFit, AddsTerms}

-- ---- a term and those before it

-- no term before has the column of this one
coefficient_before : (low : ℕ) (ts : List (ℕ × ℤ)) (i : ℕ) (d : ℕ × ℤ) → AscendsFrom low ts → i < length ts →
    (low ≤ (get_or ts i d).0) × (coefficient (get_or ts i d).0 (take i ts) ≡ pos 0)
coefficient_before low [] i d up l = absurd (omega arith)
coefficient_before low (t ∷ ts) zero d up l = (up.0, refl)
coefficient_before low (t ∷ ts) (suc i) d up l =
    let r = coefficient_before (t.0 + 1) ts i d up.1 (omega arith) in
    let h : low ≤ t.0 = up.0 in
    let b : t.0 + 1 ≤ (get_or ts i d).0 = r.0 in
    (omega arith, coefficient_rest (get_or ts i d).0 t (take i ts) (λ (e : t.0 ≡ (get_or ts i d).0). omega arith) ∙ r.1)

-- a term has the coefficient of its column
coefficient_at : (low : ℕ) (ts : List (ℕ × ℤ)) (i : ℕ) (d : ℕ × ℤ) → AscendsFrom low ts → i < length ts →
    coefficient (get_or ts i d).0 ts ≡ (get_or ts i d).1
coefficient_at low [] i d up l = absurd (omega arith)
coefficient_at low (t ∷ ts) zero d up l = coefficient_first t.0 t ts up.1 refl
coefficient_at low (t ∷ ts) (suc i) d up l =
    let b : t.0 + 1 ≤ (get_or ts i d).0 = (coefficient_before (t.0 + 1) ts i d up.1 (omega arith)).0 in
    coefficient_rest (get_or ts i d).0 t ts (λ (e : t.0 ≡ (get_or ts i d).0). omega arith) ∙ coefficient_at (t.0 + 1) ts i d up.1 (omega arith)

-- ---- the terms so far

pub AddsTerms_start : (columns : ℕ → ℤ) (m : ℤ) (ts : List (ℕ × ℤ)) → ((c : ℕ) → Fits (columns c)) → AddsTerms columns m (take 0 ts) columns
AddsTerms_start columns m ts f = record {
  fits = record {
    products = λ c. let e : m *ℤ pos 0 ≡ pos 0 = omega (arith, ints) in subst Fits (sym e) (omega arith);
    sums = λ c. let e : columns c +ℤ (m *ℤ pos 0) ≡ columns c = omega (arith, ints) in subst Fits (sym e) (f c);
  };
  values = λ c. omega (arith, ints);
}

-- one column gets a new number
pub AddsTerms_more : (columns mid new : ℕ → ℤ) (m : ℤ) (ts : List (ℕ × ℤ)) (i : ℕ) (d : ℕ × ℤ) (z : ℤ) → AscendsFrom 0 ts → i < length ts →
    AddsTerms columns m (take i ts) mid → Fits (m *ℤ (get_or ts i d).1) × Fits (mid (get_or ts i d).0 +ℤ (m *ℤ (get_or ts i d).1)) →
    z ≡ mid (get_or ts i d).0 +ℤ (m *ℤ (get_or ts i d).1) → ((c : ℕ) → new c ≡ with_value mid (get_or ts i d).0 z c) →
    AddsTerms columns m (take (i + 1) ts) new
AddsTerms_more columns mid new m ts i d z up l a f e h = record {
  fits = record { products = λ c. (each c (cases_eq (get_or ts i d).0 c)).0; sums = λ c. (each c (cases_eq (get_or ts i d).0 c)).1 };
  values = λ c. (each c (cases_eq (get_or ts i d).0 c)).2;
}
  where
    zero_first : (y : ℤ) → pos 0 +ℤ y ≡ y
    zero_first y = omega (arith, ints)

    zero_last : (y : ℤ) → y +ℤ pos 0 ≡ y
    zero_last y = omega (arith, ints)

    nothing_added : (y k : ℤ) → y +ℤ (k *ℤ pos 0) ≡ y
    nothing_added y k = omega (arith, ints)

    value_there : (f : ℕ → ℤ) (a c : ℕ) (y : ℤ) → a ≡ c → with_value f a y c ≡ y
    value_there f a c y k = rw (eq-eqb a c k) refl

    value_elsewhere : (f : ℕ → ℤ) (a c : ℕ) (y : ℤ) → (a ≡ c → ⊥) → with_value f a y c ≡ f c
    value_elsewhere f a c y k = rw (ne_eqb a c k) refl

    more : (c : ℕ) → coefficient c (take (i + 1) ts) ≡ coefficient c (take i ts) +ℤ coefficient c (get_or ts i d ∷ [])
    more c = ap (coefficient c) (take_more ts i d l) ∙ coefficient-append c (take i ts) (get_or ts i d ∷ [])

    each : (c : ℕ) → (((get_or ts i d).0 ≡ c) ⊎ ((get_or ts i d).0 ≡ c → ⊥)) →
        Fits (m *ℤ coefficient c (take (i + 1) ts)) × Fits (columns c +ℤ (m *ℤ coefficient c (take (i + 1) ts))) ×
        (new c ≡ columns c +ℤ (m *ℤ coefficient c (take (i + 1) ts)))
    each c (inl k) =
        let b : coefficient c (take i ts) ≡ pos 0 = subst (λ (n : ℕ). coefficient n (take i ts) ≡ pos 0) k (coefficient_before 0 ts i d up l).1 in
        let o : coefficient c (get_or ts i d ∷ []) ≡ (get_or ts i d).1 = coefficient_first c (get_or ts i d) [] tt k in
        let q : coefficient c (take (i + 1) ts) ≡ (get_or ts i d).1 =
        more c ∙ ap (λ (y : ℤ). y +ℤ coefficient c (get_or ts i d ∷ [])) b ∙ ap (λ (y : ℤ). pos 0 +ℤ y) o ∙ zero_first (get_or ts i d).1 in
        let v : mid c ≡ columns c = a.values c ∙ ap (λ (y : ℤ). columns c +ℤ (m *ℤ y)) b ∙ nothing_added (columns c) m in
        let w : mid (get_or ts i d).0 ≡ columns c = ap mid k ∙ v in
        let n : new c ≡ z = h c ∙ value_there mid (get_or ts i d).0 c z k in
        let s : mid (get_or ts i d).0 +ℤ (m *ℤ (get_or ts i d).1) ≡ columns c +ℤ (m *ℤ coefficient c (take (i + 1) ts)) =
        ap (λ (y : ℤ). y +ℤ (m *ℤ (get_or ts i d).1)) w ∙ ap (λ (y : ℤ). columns c +ℤ (m *ℤ y)) (sym q) in
        (subst (λ (y : ℤ). Fits (m *ℤ y)) (sym q) f.0, subst Fits s f.1, n ∙ e ∙ s)
    each c (inr k) =
        let o : coefficient c (get_or ts i d ∷ []) ≡ pos 0 = coefficient_rest c (get_or ts i d) [] k in
        let q : coefficient c (take i ts) ≡ coefficient c (take (i + 1) ts) =
        sym (more c ∙ ap (λ (y : ℤ). coefficient c (take i ts) +ℤ y) o ∙ zero_last (coefficient c (take i ts))) in
        let n : new c ≡ mid c = h c ∙ value_elsewhere mid (get_or ts i d).0 c z k in (
          subst (λ (y : ℤ). Fits (m *ℤ y)) q (a.fits.products c),
          subst (λ (y : ℤ). Fits (columns c +ℤ (m *ℤ y))) q (a.fits.sums c),
          n ∙ a.values c ∙ ap (λ (y : ℤ). columns c +ℤ (m *ℤ y)) q,
        )

-- a number of one column that does not fit
pub AddsTerms_none : (columns mid : ℕ → ℤ) (m : ℤ) (ts : List (ℕ × ℤ)) (i : ℕ) (d : ℕ × ℤ) → AscendsFrom 0 ts → i < length ts →
    AddsTerms columns m (take i ts) mid → (Fits (m *ℤ (get_or ts i d).1) × Fits (mid (get_or ts i d).0 +ℤ (m *ℤ (get_or ts i d).1)) → ⊥) →
    TermsFit columns m ts → ⊥
AddsTerms_none columns mid m ts i d up l a none f =
    let c : ℕ = (get_or ts i d).0 in
    let q : coefficient c ts ≡ (get_or ts i d).1 = coefficient_at 0 ts i d up l in
    let b : coefficient c (take i ts) ≡ pos 0 = (coefficient_before 0 ts i d up l).1 in
    let z : columns c +ℤ (m *ℤ pos 0) ≡ columns c = omega (arith, ints) in
    let v : mid c ≡ columns c = a.values c ∙ ap (λ (y : ℤ). columns c +ℤ (m *ℤ y)) b ∙ z in
    none (
      subst (λ (y : ℤ). Fits (m *ℤ y)) q (f.products c),
      subst (λ (y : ℤ). Fits (y +ℤ (m *ℤ (get_or ts i d).1))) (sym v) (subst (λ (y : ℤ). Fits (columns c +ℤ (m *ℤ y))) q (f.sums c)),
    )

-- all terms were added
pub AddsTerms_end : (columns new : ℕ → ℤ) (m : ℤ) (ts : List (ℕ × ℤ)) (i : ℕ) → length ts ≤ i →
    AddsTerms columns m (take i ts) new → AddsTerms columns m ts new
AddsTerms_end columns new m ts i l a = subst (λ (us : List (ℕ × ℤ)). AddsTerms columns m us new) (take_all i ts l) a

-- ---- nothing is kept

-- where each column's number is 0, none is kept
pub none_kept : (kept : List (ℕ × ℤ)) → AreKept kept → ((c : ℕ) → or_zero (lookup (nat_eq c) kept) ≡ pos 0) → kept ≡ []
none_kept [] k z = refl
none_kept (e ∷ es) k z =
    let s : lookup (nat_eq e.0) (e ∷ es) ≡ Some e.1 = rw (eq-eqb e.0 e.0 refl) refl in
    absurd (k.not_zero e.0 (s ∙ ap (λ (y : ℤ). Some y) (sym (ap or_zero s) ∙ z e.0)))
