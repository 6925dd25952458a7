-- The inequality of terms of different columns: no sum of them fails to fit.
use Rattle.std.proofs.Common.{◌≡◌, ◌∙◌, ◌⊎◌, ℕ, zero, suc, ◌+◌, ◌≤◌, Bool, true, false, List, [], ◌∷◌, length, take, Option, None, Some, refl, sym, ap, subst, inl, inr, lit<, arith}
use Rattle.std.specs.Prelude.{ℤ, pos, ◌+ℤ◌, nat_eq, nat_lt, if◌then◌else◌}
use Rattle.std.specs.List.{AllByRecursion}
use Rattle.std.specs.Option.{option_map}
use Rattle.std.proofs.lemmas.Int.{ints}
use Rattle.std.proofs.lemmas.Bool.{ltb-true, eq-eqb, ne_eqb, cases_eq, false≢true}
use Rattle.math_facts.specs.Fits.{Fits}
use Rattle.math_facts.specs.Terms.{coefficient}
use Rattle.lin_rows.specs.declared.types.RowKind.TheVariants.{Le}
use Rattle.lin_rows.specs.Rows.{LinearRow, AscendsFrom, IsCoefficient}
use Rattle.lin_rows.specs.Sums.{is_zero, led_by, added_at, summed, row_of, SumsFit}
use Rattle.lin_rows.proofs.Ascending.{coefficient_below, coefficient_rest}
use Rattle.lin_rows.proofs.SummedLaws.{coefficient-summed, AscendsFrom-summed}
use Rattle.proof_reuse.specs.Found.{in_order, row_of_terms}

-- ---- how many terms are left

led_length : (b : Bool) (c : ℕ) (a : ℤ) (ts : List (ℕ × ℤ)) → length (if b then ts else (c, a) ∷ ts) ≤ suc (length ts)
led_length true c a ts = omega arith
led_length false c a ts = omega arith

added_step : (b d : Bool) (c : ℕ) (a : ℤ) (t : ℕ × ℤ) (ts rest : List (ℕ × ℤ)) → length rest ≤ suc (length ts) →
    length (if b then led_by c a (t ∷ ts) else (if d then led_by c (t.1 +ℤ a) ts else t ∷ rest)) ≤ suc (suc (length ts))
added_step true d c a t ts rest h = led_length (is_zero a) c a (t ∷ ts)
added_step false true c a t ts rest h = let k = led_length (is_zero (t.1 +ℤ a)) c (t.1 +ℤ a) ts in omega (arith, k)
added_step false false c a t ts rest h = omega arith

added_length : (c : ℕ) (a : ℤ) (ts : List (ℕ × ℤ)) → length (added_at c a ts) ≤ suc (length ts)
added_length c a [] = led_length (is_zero a) c a []
added_length c a (t ∷ ts) = added_step (nat_lt c t.0) (nat_eq c t.0) c a t ts (added_at c a ts) (added_length c a ts)

summed_length : (ts : List (ℕ × ℤ)) → length (summed ts) ≤ length ts
summed_length [] = omega arith
summed_length (t ∷ ts) = let h = summed_length ts in let k = added_length t.0 t.1 (summed ts) in omega (arith, h, k)

-- where a term is added and one more is left its column was not there
fresh_step : (b d : Bool) (c : ℕ) (a : ℤ) (t : ℕ × ℤ) (ts rest : List (ℕ × ℤ)) → AscendsFrom (t.0 + 1) ts → nat_lt c t.0 ≡ b → nat_eq c t.0 ≡ d →
    (length rest ≡ suc (length ts) → coefficient c ts ≡ pos 0) →
    length (if b then led_by c a (t ∷ ts) else (if d then led_by c (t.1 +ℤ a) ts else t ∷ rest)) ≡ suc (suc (length ts)) → coefficient c (t ∷ ts) ≡ pos 0
fresh_step true d c a t ts rest up l e h n = let k = ltb-true c t.0 l in coefficient_below t.0 c (t ∷ ts) (let z : t.0 ≤ t.0 = omega arith in z, up) k
fresh_step false true c a t ts rest up l e h n = let k = led_length (is_zero (t.1 +ℤ a)) c (t.1 +ℤ a) ts in absurd (omega (arith, k, n))
fresh_step false false c a t ts rest up l e h n =
    coefficient_rest c t ts (λ f. false≢true (sym e ∙ eq-eqb c t.0 (sym f))) ∙ h (omega (arith, n))

fresh : (low c : ℕ) (a : ℤ) (ts : List (ℕ × ℤ)) → AscendsFrom low ts → length (added_at c a ts) ≡ suc (length ts) → coefficient c ts ≡ pos 0
fresh low c a [] up n = refl
fresh low c a (t ∷ ts) up n =
    fresh_step (nat_lt c t.0) (nat_eq c t.0) c a t ts (added_at c a ts) up.1 refl refl (λ k. fresh (t.0 + 1) c a ts up.1 k) n

-- as many terms are left as there were
abbrev AreApart : List (ℕ × ℤ) → Type 0
AreApart ts = length (summed ts) ≡ length ts

rest_apart : (t : ℕ × ℤ) (ts : List (ℕ × ℤ)) → AreApart (t ∷ ts) → AreApart ts
rest_apart t ts n = let h = summed_length ts in let k = added_length t.0 t.1 (summed ts) in omega (arith, h, k, n)

first_fresh : (t : ℕ × ℤ) (ts : List (ℕ × ℤ)) → AreApart (t ∷ ts) → coefficient t.0 ts ≡ pos 0
first_fresh t ts n =
    let h = rest_apart t ts n in
    let k : length (added_at t.0 t.1 (summed ts)) ≡ suc (length (summed ts)) = omega (arith, h, n) in
    sym (coefficient-summed t.0 ts) ∙ fresh 0 t.0 t.1 (summed ts) (AscendsFrom-summed ts) k

-- ---- their sums

own_column : (c : ℕ) (t : ℕ × ℤ) (ts : List (ℕ × ℤ)) → t.0 ≡ c → coefficient c (t ∷ ts) ≡ t.1 +ℤ coefficient c ts
own_column c t ts e = rw (eq-eqb t.0 c e) refl

nothing_added : (z w : ℤ) → w ≡ pos 0 → z +ℤ w ≡ z
nothing_added z w e = omega (arith, ints)

alone : (c : ℕ) (t : ℕ × ℤ) (ts : List (ℕ × ℤ)) → t.0 ≡ c → coefficient c ts ≡ pos 0 → coefficient c (t ∷ ts) ≡ t.1
alone c t ts e z = own_column c t ts e ∙ nothing_added t.1 (coefficient c ts) z

-- the coefficient in the first terms is 0 or that in all
taken_or_none : (c k : ℕ) (ts : List (ℕ × ℤ)) → AreApart ts → (coefficient c (take k ts) ≡ pos 0) ⊎ (coefficient c (take k ts) ≡ coefficient c ts)
taken_or_none c zero ts n = inl refl
taken_or_none c (suc k) [] n = inl refl
taken_or_none c (suc k) (t ∷ ts) n =
    let r = taken_or_none c k ts (rest_apart t ts n) in
    elim (cases_eq t.0 c) [
      | inl e ↦
          let z : coefficient c ts ≡ pos 0 = subst (λ (d : ℕ). coefficient d ts ≡ pos 0) e (first_fresh t ts n) in
          let w : coefficient c (take k ts) ≡ pos 0 = elim r [ inl h ↦ h | inr h ↦ h ∙ z ] in
          inr (alone c t (take k ts) e w ∙ sym (alone c t ts e z))
      | inr e ↦ elim r [
        | inl h ↦ inl (coefficient_rest c t (take k ts) e ∙ h)
        | inr h ↦ inr (coefficient_rest c t (take k ts) e ∙ h ∙ sym (coefficient_rest c t ts e))
      ]
    ]

all_fit : (c : ℕ) (ts : List (ℕ × ℤ)) → AreApart ts → AllByRecursion IsCoefficient ts → Fits (coefficient c ts)
all_fit c [] n h = lit< tt
all_fit c (t ∷ ts) n h = elim (cases_eq t.0 c) [
  | inl e ↦
      let z : coefficient c ts ≡ pos 0 = subst (λ (d : ℕ). coefficient d ts ≡ pos 0) e (first_fresh t ts n) in
      subst (λ (y : ℤ). Fits y) (sym (alone c t ts e z)) h.0.fits
  | inr e ↦ subst (λ (y : ℤ). Fits y) (sym (coefficient_rest c t ts e)) (all_fit c ts (rest_apart t ts n) h.1)
]

each_fits : (ts : List (ℕ × ℤ)) → AllByRecursion IsCoefficient ts → AllByRecursion (λ t. Fits t.1) ts
each_fits [] h = tt
each_fits (t ∷ ts) h = (h.0.fits, each_fits ts h.1)

apart_fit : (ts : List (ℕ × ℤ)) (bound : ℤ) → AllByRecursion IsCoefficient ts → Fits bound → AreApart ts → SumsFit ts bound
apart_fit ts bound h b n = record {
  each = each_fits ts h;
  sums = λ c k. elim (taken_or_none c k ts n) [
    | inl e ↦ subst (λ (y : ℤ). Fits y) (sym e) (let z : Fits (pos 0) = lit< tt in z)
    | inr e ↦ subst (λ (y : ℤ). Fits y) (sym e) (all_fit c ts n h)
  ];
  bound_fits = b;
}

-- ---- the inequality

abbrev pub row_in : List (ℕ × ℤ) → ℤ → Option LinearRow
row_in ts bound = option_map (λ us. row_of_terms (us, bound)) (in_order ts)

pub row_kept : (ts : List (ℕ × ℤ)) (bound : ℤ) (row : LinearRow) → row ≡ row_of ts Le bound → length row.terms ≡ length ts → Some row ≡ row_in ts bound
row_kept ts bound row r n =
    let k : length (summed ts) ≡ length ts = sym (ap (λ (x : LinearRow). length x.terms) r) ∙ n in
    rw (eq-eqb (length (summed ts)) (length ts) k) (ap Some r)

row_none : (ts : List (ℕ × ℤ)) (bound : ℤ) → (AreApart ts → ⊥) → None ≡ row_in ts bound
row_none ts bound n = rw (ne_eqb (length (summed ts)) (length ts) n) refl

pub row_lost : (ts : List (ℕ × ℤ)) (bound : ℤ) (row : LinearRow) → row ≡ row_of ts Le bound → (length row.terms ≡ length ts → ⊥) → None ≡ row_in ts bound
row_lost ts bound row r n = row_none ts bound (λ k. n (ap (λ (x : LinearRow). length x.terms) r ∙ k))

pub row_past : (ts : List (ℕ × ℤ)) (bound : ℤ) → AllByRecursion IsCoefficient ts → Fits bound → (SumsFit ts bound → ⊥) → None ≡ row_in ts bound
row_past ts bound h b n = row_none ts bound (λ k. n (apart_fit ts bound h b k))
