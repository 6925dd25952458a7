-- The row that a form adds to a turn fits where its bound does: a column has a coefficient of the form, the opposite of one, or their sum 0.
use Rattle.std.proofs.Common.{◌≡◌, ◌⊎◌, ◌∙◌, ℕ, zero, suc, ◌+◌, ◌<◌, ◌≤◌, ℤ, pos, ◌+ℤ◌, ◌-ℤ◌, neg_ℤ, List, [], ◌∷◌, ◌++◌, length, take, drop, get_or, FitsSigned, inl, inr, refl, sym, ap, subst, arith, rules, append_assoc, add-one, drop-cons}
use Rattle.std.specs.Prelude.{slice_index}
use Rattle.std.specs.List.{AllByRecursion}
use Rattle.std.specs.Int.{w128}
use Rattle.std.proofs.Math.Dec.{lit<}
use Rattle.std.proofs.lemmas.Int.{ints}
use Rattle.std.proofs.lemmas.Bool.{eq-eqb, ne_eqb, cases_eq}
use Rattle.math_facts.specs.Fits.{Fits}
use Rattle.math_facts.specs.Terms.{coefficient, opposite, IsBelow}
use Rattle.math_facts.proofs.TermLaws.{coefficient-append, coefficient-opposite, coefficient_past}
use Rattle.lin_rows.specs.Rows.{AscendsFrom, IsRow}
use Rattle.lin_rows.specs.Sums.{row_of, SumsFit}
use Rattle.lin_rows.specs.declared.types.RowKind.TheVariants.{Le}
use Rattle.lin_rows.proofs.Ascending.{coefficient_first, coefficient_rest}
use Rattle.nwa_base.specs.Members.{Member}
use Rattle.letter_acts.specs.Invariant.{AreDistinct}
use Rattle.letter_acts.specs.FrameRows.Rows.{columns_from}
use Rattle.path_rows.proofs.DifferLemmas.{columns_at}
use Rattle.rank_lasso.specs.LassoTurns.Stages.{AreFirstOrNew}
use Rattle.rank_lasso.specs.LassoTurns.Claims.{IsFormOver, at_versions}

-- ---- ascending terms

pub fits_neg : (z : ℤ) → Fits z → Fits (neg_ℤ z)
fits_neg z f = omega (arith, ints)

pub signed : (z : ℤ) → Fits z → FitsSigned w128 z
signed z f = search (rules, ints)

-- what the code's `-z` gives
pub opposite_signed : (z : ℤ) → Fits z → FitsSigned w128 (pos 0 +ℤ neg_ℤ z)
opposite_signed z f = search (rules, ints)

pub one_less_fits : (z : ℤ) → Fits z → FitsSigned w128 (z -ℤ pos 1)
one_less_fits z f = search (rules, ints)

pub ascends_take : (low k : ℕ) (ts : List (ℕ × ℤ)) → AscendsFrom low ts → AscendsFrom low (take k ts)
ascends_take low zero ts h = tt
ascends_take low (suc k) [] h = tt
ascends_take low (suc k) (t ∷ ts) h = (h.0, ascends_take (t.0 + 1) k ts h.1)

pub below_take : (n k : ℕ) (ts : List (ℕ × ℤ)) → IsBelow n ts → IsBelow n (take k ts)
below_take n zero ts h = tt
below_take n (suc k) [] h = tt
below_take n (suc k) (t ∷ ts) h = (h.0, below_take n k ts h.1)

pub fit_take : (k : ℕ) (ts : List (ℕ × ℤ)) → AllByRecursion (λ t. Fits t.1) ts → AllByRecursion (λ t. Fits t.1) (take k ts)
fit_take zero ts h = tt
fit_take (suc k) [] h = tt
fit_take (suc k) (t ∷ ts) h = (h.0, fit_take k ts h.1)

member_take : (k : ℕ) (ts : List (ℕ × ℤ)) (t : ℕ × ℤ) → Member (take k ts) t → Member ts t
member_take zero ts t h = absurd h
member_take (suc k) [] t h = absurd h
member_take (suc k) (u ∷ ts) t h = elim h [ inl e ↦ inl e | inr m ↦ inr (member_take k ts t m) ]

pub coefficient_fits : (c low : ℕ) (ts : List (ℕ × ℤ)) → AscendsFrom low ts → AllByRecursion (λ t. Fits t.1) ts → Fits (coefficient c ts)
coefficient_fits c low [] up f = lit< tt
coefficient_fits c low (t ∷ ts) up f = elim (cases_eq t.0 c) [
  | inl e ↦ subst Fits (sym (coefficient_first c t ts up.1 e)) f.0
  | inr n ↦ subst Fits (sym (coefficient_rest c t ts n)) (coefficient_fits c (t.0 + 1) ts up.1 f.1)
]

ascends_member : (low : ℕ) (ts : List (ℕ × ℤ)) (t : ℕ × ℤ) → AscendsFrom low ts → Member ts t → low ≤ t.0
ascends_member low [] t up h = absurd h
ascends_member low (u ∷ ts) t up h = elim h [
  | inl e ↦ subst (λ (x : ℕ × ℤ). low ≤ x.0) e up.0
  | inr m ↦ let a = ascends_member (u.0 + 1) ts t up.1 m in let b = up.0 in omega (arith, a, b)
]

member_coefficient : (low : ℕ) (ts : List (ℕ × ℤ)) (t : ℕ × ℤ) → AscendsFrom low ts → Member ts t → coefficient t.0 ts ≡ t.1
member_coefficient low [] t up h = absurd h
member_coefficient low (u ∷ ts) t up h = elim h [
  | inl e ↦ subst (λ (x : ℕ × ℤ). coefficient x.0 (u ∷ ts) ≡ x.1) e (coefficient_first u.0 u ts up.1 refl)
  | inr m ↦
      let a = ascends_member (u.0 + 1) ts t up.1 m in
      coefficient_rest t.0 u ts (λ (e : u.0 ≡ t.0). omega (arith, a, e)) ∙ member_coefficient (u.0 + 1) ts t up.1 m
]

below_member : (n : ℕ) (ts : List (ℕ × ℤ)) (t : ℕ × ℤ) → IsBelow n ts → Member ts t → t.0 < n
below_member n [] t b h = absurd h
below_member n (u ∷ ts) t b h = elim h [ inl e ↦ subst (λ (x : ℕ × ℤ). x.0 < n) e b.0 | inr m ↦ below_member n ts t b.1 m ]

fit_member : (ts : List (ℕ × ℤ)) (t : ℕ × ℤ) → AllByRecursion (λ t. Fits t.1) ts → Member ts t → Fits t.1
fit_member [] t b h = absurd h
fit_member (u ∷ ts) t b h = elim h [ inl e ↦ subst (λ (x : ℕ × ℤ). Fits x.1) e b.0 | inr m ↦ fit_member ts t b.1 m ]

pub fit_at : (ts : List (ℕ × ℤ)) (i : ℕ) (d : ℕ × ℤ) → i < length ts → AllByRecursion (λ t. Fits t.1) ts → Fits (get_or ts i d).1
fit_at [] i d l h = absurd (omega (arith, l))
fit_at (t ∷ ts) zero d l h = h.0
fit_at (t ∷ ts) (suc i) d l h = fit_at ts i d (omega (arith, l)) h.1

-- ---- the form before less that after, term by term

pub fall_goes : (after : List ℕ) (terms old new all : List (ℕ × ℤ)) (i : ℕ) (d : ℕ × ℤ) → i < length terms →
    new ≡ old ++ (slice_index after (get_or terms i d).0, pos 0 +ℤ neg_ℤ (get_or terms i d).1) ∷ [] →
    old ++ opposite (at_versions after (drop i terms)) ≡ all → new ++ opposite (at_versions after (drop (i + 1) terms)) ≡ all
fall_goes after terms old new all i d l e h =
    let t : ℕ × ℤ = get_or terms i d in
    let rest : List (ℕ × ℤ) = opposite (at_versions after (drop (i + 1) terms)) in
    let split : drop i terms ≡ t ∷ drop (i + 1) terms = rw (add-one, drop-cons terms i d) refl in
    let sign : pos 0 +ℤ neg_ℤ t.1 ≡ neg_ℤ t.1 = omega (arith, ints) in
    ap (λ (v : List (ℕ × ℤ)). v ++ rest) e ∙ append_assoc old ((slice_index after t.0, pos 0 +ℤ neg_ℤ t.1) ∷ []) rest ∙
    ap (λ (z : ℤ). old ++ (slice_index after t.0, z) ∷ rest) sign ∙
    ap (λ (ts : List (ℕ × ℤ)). old ++ opposite (at_versions after ts)) (sym split) ∙ h

-- ---- versions that differ

index_member : (vs : List ℕ) (i : ℕ) → i < length vs → Member vs (slice_index vs i)
index_member [] i l = absurd (omega (arith, l))
index_member (v ∷ vs) zero l = inl refl
index_member (v ∷ vs) (suc i) l = inr (index_member vs i (omega (arith, l)))

same_index : (vs : List ℕ) → AreDistinct vs → (i j : ℕ) → i < length vs → j < length vs → slice_index vs i ≡ slice_index vs j → i ≡ j
same_index [] d i j a b e = absurd (omega (arith, a))
same_index (v ∷ vs) d zero zero a b e = refl
same_index (v ∷ vs) d zero (suc j) a b e = absurd (d.0 (subst (Member vs) (sym e) (index_member vs j (omega (arith, b)))))
same_index (v ∷ vs) d (suc i) zero a b e = absurd (d.0 (subst (Member vs) e (index_member vs i (omega (arith, a)))))
same_index (v ∷ vs) d (suc i) (suc j) a b e = ap suc (same_index vs d.1 i j (omega (arith, a)) (omega (arith, b)) e)

-- the term whose version is column c
record Found (c : ℕ) (vs : List ℕ) (ts : List (ℕ × ℤ)) : Type 0 where
  term : ℕ × ℤ
  there : Member ts term
  version : slice_index vs term.0 ≡ c
  is : coefficient c (at_versions vs ts) ≡ term.1

passed_over : (c : ℕ) (vs : List ℕ) (t : ℕ × ℤ) (ts : List (ℕ × ℤ)) → (slice_index vs t.0 ≡ c → ⊥) → coefficient c (at_versions vs (t ∷ ts)) ≡ coefficient c (at_versions vs ts)
passed_over c vs t ts n = rw (ne_eqb (slice_index vs t.0) c n) (omega (arith, ints))

taken_here : (c : ℕ) (vs : List ℕ) (t : ℕ × ℤ) (ts : List (ℕ × ℤ)) → slice_index vs t.0 ≡ c → coefficient c (at_versions vs ts) ≡ pos 0 → coefficient c (at_versions vs (t ∷ ts)) ≡ t.1
taken_here c vs t ts e z = rw (eq-eqb (slice_index vs t.0) c e) (omega (arith, ints, z))

none_there : (c low : ℕ) (vs : List ℕ) (ts : List (ℕ × ℤ)) → AscendsFrom low ts → IsBelow (length vs) ts → ((j : ℕ) → low ≤ j → j < length vs → slice_index vs j ≡ c → ⊥) →
    coefficient c (at_versions vs ts) ≡ pos 0
none_there c low vs [] up b n = refl
none_there c low vs (t ∷ ts) up b n =
    passed_over c vs t ts (n t.0 up.0 b.0) ∙ none_there c (t.0 + 1) vs ts up.1 b.1 (λ j l. n j (let a = up.0 in omega (arith, a, l)))

one_of : (c low : ℕ) (vs : List ℕ) (ts : List (ℕ × ℤ)) → AreDistinct vs → AscendsFrom low ts → IsBelow (length vs) ts → (coefficient c (at_versions vs ts) ≡ pos 0) ⊎ Found c vs ts
one_of c low vs [] d up b = inl refl
one_of c low vs (t ∷ ts) d up b = elim (cases_eq (slice_index vs t.0) c) [
  | inl e ↦ inr (record {
    term = t;
    there = inl refl;
    version = e;
    is = taken_here c vs t ts e (none_there c (t.0 + 1) vs ts up.1 b.1
        (λ j l m h. (let k = same_index vs d t.0 j b.0 m (e ∙ sym h) in omega (arith, k, l))));
  })
  | inr n ↦ elim (one_of c (t.0 + 1) vs ts d up.1 b.1) [
    | inl z ↦ inl (passed_over c vs t ts n ∙ z)
    | inr f ↦ inr (record { term = f.term; there = inr f.there; version = f.version; is = passed_over c vs t ts n ∙ f.is })
  ]
]

-- ---- the terms in front

-- so many of two lists one behind the other: of the first alone, or all of it and some of the second
pub taken_of : (k : ℕ) (a b : List (ℕ × ℤ)) → (take k (a ++ b) ≡ take k a) ⊎ ((m : ℕ) × (take k (a ++ b) ≡ a ++ take m b))
taken_of zero a b = inl refl
taken_of (suc k) [] b = inr (suc k, refl)
taken_of (suc k) (t ∷ a) b = elim (taken_of k a b) [
  | inl e ↦ inl (ap (λ (l : List (ℕ × ℤ)). t ∷ l) e)
  | inr m ↦ inr (m.0, ap (λ (l : List (ℕ × ℤ)). t ∷ l) m.1)
]

take_opposite : (k : ℕ) (vs : List ℕ) (ts : List (ℕ × ℤ)) → take k (opposite (at_versions vs ts)) ≡ opposite (at_versions vs (take k ts))
take_opposite zero vs ts = refl
take_opposite (suc k) vs [] = refl
take_opposite (suc k) vs (t ∷ ts) = ap (λ (l : List (ℕ × ℤ)). (slice_index vs t.0, neg_ℤ t.1) ∷ l) (take_opposite k vs ts)

pub all_joined : (P : ℕ × ℤ → Type 0) (a b : List (ℕ × ℤ)) → AllByRecursion P a → AllByRecursion P b → AllByRecursion P (a ++ b)
all_joined P [] b h k = k
all_joined P (t ∷ a) b h k = (h.0, all_joined P a b h.1 k)

opposite_fit : (vs : List ℕ) (ts : List (ℕ × ℤ)) → AllByRecursion (λ t. Fits t.1) ts → AllByRecursion (λ t. Fits t.1) (opposite (at_versions vs ts))
opposite_fit vs [] h = tt
opposite_fit vs (t ∷ ts) h = (fits_neg t.1 h.0, opposite_fit vs ts h.1)

module _ (width : ℕ) (terms : List (ℕ × ℤ)) (over : IsFormOver width terms) where
  front_fits : (c k : ℕ) → Fits (coefficient c (take k terms))
  front_fits c k = coefficient_fits c 0 (take k terms) (ascends_take 0 k terms over.ascends) (fit_take k terms over.coefficients)

  -- the form alone
  pub form_fits : (b : ℤ) → IsRow (row_of terms Le b) → SumsFit terms b
  form_fits b r = record { each = over.coefficients; sums = front_fits; bound_fits = r.bound_fits }

  -- the form before a turn less that after it
  pub fall_fits : (after : List ℕ) → length after ≡ width → AreDistinct after → AreFirstOrNew width after → (b : ℤ) →
      Fits b → SumsFit (terms ++ opposite (at_versions after terms)) b
  fall_fits after l d f b z = record {
    each = all_joined (λ t. Fits t.1) terms (opposite (at_versions after terms)) over.coefficients (opposite_fit after terms over.coefficients);
    sums = λ c k. elim (taken_of k terms (opposite (at_versions after terms))) [
      | inl e ↦ subst (λ (v : List (ℕ × ℤ)). Fits (coefficient c v)) (sym e) (front_fits c k)
      | inr m ↦
          subst (λ (v : List (ℕ × ℤ)). Fits (coefficient c v)) (sym (m.1 ∙ ap (λ (v : List (ℕ × ℤ)). terms ++ v) (take_opposite m.0 after terms)))
          (subst Fits (sym (coefficient-append c terms (opposite (at_versions after (take m.0 terms))) ∙
          ap (λ (y : ℤ). coefficient c terms +ℤ y) (coefficient-opposite c (at_versions after (take m.0 terms)))))
          (both c m.0 (one_of c 0 after (take m.0 terms) d (ascends_take 0 m.0 terms over.ascends)
          (below_take (length after) m.0 terms (subst (λ (n : ℕ). IsBelow n terms) (sym l) over.within)))))
    ];
    bound_fits = z;
  }
    where
      both : (c m : ℕ) → ((coefficient c (at_versions after (take m terms)) ≡ pos 0) ⊎ Found c after (take m terms)) →
          Fits (coefficient c terms +ℤ neg_ℤ (coefficient c (at_versions after (take m terms))))
      both c m (inl e) =
          subst Fits (let i : coefficient c terms ≡ coefficient c terms +ℤ neg_ℤ (coefficient c (at_versions after (take m terms))) = omega (arith, ints, e) in i)
          (coefficient_fits c 0 terms over.ascends over.coefficients)
      both c m (inr h) =
          let there : Member terms h.term = member_take m terms h.term h.there in
          let e = h.is in
          elim (f h.term.0 (below_member width terms h.term over.within there)) [
            | inl i ↦
                let c_is : h.term.0 ≡ c = sym i ∙ h.version in
                let x : coefficient c terms ≡ h.term.1 = subst (λ (n : ℕ). coefficient n terms ≡ h.term.1) c_is (member_coefficient 0 terms h.term over.ascends there) in
                subst Fits (let k : pos 0 ≡ coefficient c terms +ℤ neg_ℤ (coefficient c (at_versions after (take m terms))) = omega (arith, ints, x, e) in k) (lit< tt)
            | inr i ↦
                let v = h.version in
                let x : coefficient c terms ≡ pos 0 = coefficient_past c width terms (omega (arith, i, v)) over.within in
                subst Fits (let k : neg_ℤ h.term.1 ≡ coefficient c terms +ℤ neg_ℤ (coefficient c (at_versions after (take m terms))) = omega (arith, ints, x, e) in k)
                (fits_neg h.term.1 (fit_member terms h.term over.coefficients there))
          ]

-- ---- versions that are the first columns

pub at_first : (width : ℕ) (ts : List (ℕ × ℤ)) → IsBelow width ts → at_versions (columns_from 0 width) ts ≡ ts
at_first width [] b = refl
at_first width (t ∷ ts) b =
    let e : slice_index (columns_from 0 width) t.0 ≡ t.0 = (let i = columns_at 0 width t.0 b.0 in omega (arith, i)) in
    let f : at_versions (columns_from 0 width) ts ≡ ts = at_first width ts b.1 in
    let h : (slice_index (columns_from 0 width) t.0, t.1) ≡ t = ap (λ (n : ℕ). (n, t.1)) e in
    cc
