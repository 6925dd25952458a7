-- Totals of columns, and the rows that they make.
use Rattle.std.proofs.Common.{◌≡◌, ◌⊎◌, inl, inr, ⊎_elim, ℕ, zero, suc, ◌+◌, ◌<◌, ◌≤◌, Bool, true, false, ℤ, pos, ◌+ℤ◌, List, [], ◌∷◌, ◌++◌, length, get_or, take, drop, Option, None, Some, nat_lt, if◌then◌else◌, refl, sym, ◌∙◌, ap, subst, arith}
use Rattle.std.specs.Prelude.{unsigned_abs}
use Rattle.std.specs.List.{AllByRecursion, list_all}
use Rattle.std.proofs.lemmas.Int.{ints}
use Rattle.std.proofs.lemmas.Bool.{and_parts, eq-eqb, cases_eq, cases_lt, ltb-true, lt-ltb}
use Rattle.std.proofs.lemmas.Bool.Decides.{nat_tests}
use Rattle.math_facts.specs.Fits.{Fits}
use Rattle.math_facts.specs.Terms.{coefficient, IsBelow}
use Rattle.math_facts.proofs.TermLaws.{coefficient-append, coefficient_past, IsBelow_more, IsBelow-append}
use Rattle.lin_rows.specs.declared.types.RowKind.{RowKind}
use Rattle.lin_rows.specs.Rows.{LinearRow, AscendsFrom, IsCoefficient, IsRow}
use Rattle.lin_rows.specs.Sums.{summed, row_of, SumsFit}
use Rattle.lin_rows.proofs.Ascending.{same_from_coefficients, coefficient_first, coefficient_rest}
use Rattle.lin_rows.proofs.SummedLaws.{coefficient-summed, AscendsFrom-summed, HasNoZero-summed}
use Rattle.typed_tree.specs.AffineForm.{fits}
use Rattle.cond_jumps.specs.Conjunctions.{row_fits}
use Rattle.std.proofs.Math.Seq.{drop-cons}
use Rattle.cond_jumps.specs.declared.totals.Term.{Term}
use Rattle.cond_jumps.specs.Ties.Totals.{terms_of, lesser, least, TotalsFit, AreTotals}
use Rattle.cond_jumps.proofs.MeaningLemmas.{all_append}

-- ---- ascending terms

-- the first so many terms ascend
AscendsFrom-take : (low n : ℕ) (ts : List (ℕ × ℤ)) → AscendsFrom low ts → AscendsFrom low (take n ts)
AscendsFrom-take low zero ts up = tt
AscendsFrom-take low (suc n) [] up = tt
AscendsFrom-take low (suc n) (t ∷ ts) up = (up.0, AscendsFrom-take (t.0 + 1) n ts up.1)

-- the coefficients of ascending terms fit, where the terms do
Fits-columns : (low c : ℕ) (ts : List (ℕ × ℤ)) → AscendsFrom low ts → AllByRecursion (λ t. Fits t.1) ts → Fits (coefficient c ts)
Fits-columns low c [] up h = omega arith
Fits-columns low c (t ∷ ts) up h = cases c t ts up.1 h.0 (Fits-columns (t.0 + 1) c ts up.1 h.1) (cases_eq t.0 c)
  where
    cases : (c : ℕ) (t : ℕ × ℤ) (ts : List (ℕ × ℤ)) → AscendsFrom (t.0 + 1) ts → Fits t.1 → Fits (coefficient c ts) → ((t.0 ≡ c) ⊎ (t.0 ≡ c → ⊥)) → Fits (coefficient c (t ∷ ts))
    cases c t ts up f g (inl e) = subst Fits (sym (coefficient_first c t ts up e)) f
    cases c t ts up f g (inr e) = subst Fits (sym (coefficient_rest c t ts e)) g

-- ---- what fits

pub fits_so : (z : ℤ) → fits z ≡ true → Fits z
fits_so z e = ltb-true (unsigned_abs z) 170141183460469231731687303715884105728 e

pub fits_back : (z : ℤ) → Fits z → fits z ≡ true
fits_back z h = lt-ltb (unsigned_abs z) 170141183460469231731687303715884105728 h

all_fits_so : (ts : List (ℕ × ℤ)) → list_all (λ t. fits t.1) ts ≡ true → AllByRecursion (λ t. Fits t.1) ts
all_fits_so [] e = tt
all_fits_so (t ∷ ts) e = let k = and_parts (fits t.1) (list_all (λ u. fits u.1) ts) e in (fits_so t.1 k.0, all_fits_so ts k.1)

all_fits_back : (ts : List (ℕ × ℤ)) → AllByRecursion IsCoefficient ts → list_all (λ t. fits t.1) ts ≡ true
all_fits_back [] h = refl
all_fits_back (t ∷ ts) h = rw (fits_back t.1 h.0.fits) (all_fits_back ts h.1)

-- a row that keeps its invariant fits
pub row_fits_back : (r : LinearRow) → IsRow r → row_fits r ≡ true
row_fits_back r h = rw (all_fits_back r.terms h.coefficients, fits_back r.bound h.bound_fits) refl

-- the row of given terms fits only where the totals of the columns fit, and the bound
pub totals_fit_so : (ts : List (ℕ × ℤ)) (kind : RowKind) (bound : ℤ) → row_fits (row_of ts kind bound) ≡ true → TotalsFit ts
totals_fit_so ts kind bound e c =
    let k = and_parts (list_all (λ t. fits t.1) (summed ts)) (fits bound) e in
    subst Fits (coefficient-summed c ts) (Fits-columns 0 c (summed ts) (AscendsFrom-summed ts) (all_fits_so (summed ts) k.0))

pub bound_fits_so : (ts : List (ℕ × ℤ)) (kind : RowKind) (bound : ℤ) → row_fits (row_of ts kind bound) ≡ true → Fits bound
bound_fits_so ts kind bound e = fits_so bound (and_parts (list_all (λ t. fits t.1) (summed ts)) (fits bound) e).1

-- what is not true is false
pub not_true : (b : Bool) → (b ≡ true → ⊥) → b ≡ false
not_true true h = absurd (h refl)
not_true false h = refl

-- ---- totals

-- their row is the row of the given terms, and its sums fit
pub totals_row : (given sums : List (ℕ × ℤ)) (kind : RowKind) (bound : ℤ) → AreTotals given sums → row_of sums kind bound ≡ row_of given kind bound
totals_row given sums kind bound h =
    let e : summed sums ≡ summed given =
    same_from_coefficients 0 (summed sums) (summed given) (AscendsFrom-summed sums) (AscendsFrom-summed given) (HasNoZero-summed sums) (HasNoZero-summed given)
    (λ c. coefficient-summed c sums ∙ h.same c ∙ sym (coefficient-summed c given)) in
    λ i. record { terms = e i; kind = kind; bound = bound }

take_fits : (k : ℕ) (ts : List (ℕ × ℤ)) → AllByRecursion (λ t. Fits t.1) ts → AllByRecursion (λ t. Fits t.1) (take k ts)
take_fits zero ts h = tt
take_fits (suc k) [] h = tt
take_fits (suc k) (t ∷ ts) h = (h.0, take_fits k ts h.1)

pub totals_sums_fit : (given sums : List (ℕ × ℤ)) (bound : ℤ) → AreTotals given sums → Fits bound → SumsFit sums bound
totals_sums_fit given sums bound h f =
    record {
      each = h.fit;
      sums = λ c k. Fits-columns 0 c (take k sums) (AscendsFrom-take 0 k sums h.ascends) (take_fits k sums h.fit);
      bound_fits = f;
    }

-- ---- the least column

-- a column was found, and is no greater
abbrev pub IsAtMost : Option ℕ → ℕ → Type 0
IsAtMost o b = (d : ℕ) × (o ≡ Some d) × (d ≤ b)

lesser_kept : (low b c : ℕ) → IsAtMost (lesser low (Some b) c) b
lesser_kept low b c = by_tests (nat_lt c low) (nat_lt c b) refl
  where
    by_tests : (x y : Bool) → nat_lt c b ≡ y → IsAtMost (if x then Some b else (if y then Some c else Some b)) b
    by_tests true y e = (b, refl, omega arith)
    by_tests false true e = (c, refl, let l : c < b = ltb-true c b e in omega arith)
    by_tests false false e = (b, refl, omega arith)

lesser_new : (low c : ℕ) (best : Option ℕ) → low ≤ c → IsAtMost (lesser low best c) c
lesser_new low c None l = let e : nat_lt c low ≡ false = not_true (nat_lt c low) (λ k. let h : c < low = ltb-true c low k in omega arith) in rw e (c, refl, omega arith)
lesser_new low c (Some b) l =
    let e : nat_lt c low ≡ false = not_true (nat_lt c low) (λ k. let h : c < low = ltb-true c low k in omega arith) in
    rw e (by_test (nat_lt c b) refl)
  where
    by_test : (y : Bool) → nat_lt c b ≡ y → IsAtMost (if y then Some c else Some b) c
    by_test true e = (c, refl, omega arith)
    by_test false e = (b, refl, grind (arith, nat_tests))

lesser_inside : (low c : ℕ) (best : Option ℕ) → ((b : ℕ) → best ≡ Some b → low ≤ b) → (d : ℕ) → lesser low best c ≡ Some d → low ≤ d
lesser_inside low c None h d e = by_test (nat_lt c low) refl e
  where
    by_test : (x : Bool) → nat_lt c low ≡ x → (if x then None else Some c) ≡ Some d → low ≤ d
    by_test true f g = absurd (cc)
    by_test false f g = let k : c ≡ d = cc in grind (arith, nat_tests)
lesser_inside low c (Some b) h d e = by_tests (nat_lt c low) (nat_lt c b) refl e
  where
    by_tests : (x y : Bool) → nat_lt c low ≡ x → (if x then Some b else (if y then Some c else Some b)) ≡ Some d → low ≤ d
    by_tests true y f g = h d g
    by_tests false true f g = let k : c ≡ d = cc in grind (arith, nat_tests)
    by_tests false false f g = h d g

least_kept : (low b : ℕ) (best : Option ℕ) (ts : List (ℕ × ℤ)) → IsAtMost best b → IsAtMost (least low best ts) b
least_kept low b best [] h = h
least_kept low b best (t ∷ ts) h =
    let k : IsAtMost (lesser low best t.0) h.0 = (let P : Option ℕ → Type 0 = λ o. IsAtMost (lesser low o t.0) h.0 in subst P (sym h.1) (lesser_kept low h.0 t.0)) in
    least_kept low b (lesser low best t.0) ts (k.0, k.1, let l : k.0 ≤ h.0 = k.2 in let m : h.0 ≤ b = h.2 in omega arith)

least_covers : (low c : ℕ) (best : Option ℕ) (ts : List (ℕ × ℤ)) → low ≤ c → IsAtMost (least low best ts) c ⊎ (coefficient c ts ≡ pos 0)
least_covers low c best [] l = inr refl
least_covers low c best (t ∷ ts) l =
    ⊎_elim
    (λ (e : t.0 ≡ c).
    let k : IsAtMost (lesser low best t.0) c = (let P : ℕ → Type 0 = λ n. IsAtMost (lesser low best n) c in subst P (sym e) (lesser_new low c best l)) in
    inl (least_kept low c (lesser low best t.0) ts k))
    (λ (e : t.0 ≡ c → ⊥).
    ⊎_elim (λ (k : IsAtMost (least low (lesser low best t.0) ts) c). inl k) (λ (k : coefficient c ts ≡ pos 0). inr (coefficient_rest c t ts e ∙ k))
    (least_covers low c (lesser low best t.0) ts l))
    (cases_eq t.0 c)

least_inside : (low : ℕ) (best : Option ℕ) (ts : List (ℕ × ℤ)) → ((b : ℕ) → best ≡ Some b → low ≤ b) → (d : ℕ) → least low best ts ≡ Some d → low ≤ d
least_inside low best [] h d e = h d e
least_inside low best (t ∷ ts) h d e = least_inside low (lesser low best t.0) ts (λ b f. lesser_inside low t.0 best h b f) d e

-- no column from the bound on has a coefficient where none was found
pub least_none : (low : ℕ) (ts : List (ℕ × ℤ)) → least low None ts ≡ None → (c : ℕ) → low ≤ c → coefficient c ts ≡ pos 0
least_none low ts e c l =
    ⊎_elim (λ (k : IsAtMost (least low None ts) c). absurd (let f : None ≡ Some k.0 = sym e ∙ k.1 in no_some k.0 f)) (λ (k : coefficient c ts ≡ pos 0). k) (least_covers low c None ts l)
  where
    no_some : (d : ℕ) → None ≡ Some d → ⊥
    no_some d f = cc

-- no column between the bound and the one that was found has a coefficient
pub least_some : (low b : ℕ) (ts : List (ℕ × ℤ)) → least low None ts ≡ Some b → (c : ℕ) → low ≤ c → c < b → coefficient c ts ≡ pos 0
least_some low b ts e c l m =
    ⊎_elim
    (λ (k : IsAtMost (least low None ts) c).
    let f : Some b ≡ Some k.0 = sym e ∙ k.1 in
    let g : b ≡ k.0 = cc in
    let h : k.0 ≤ c = k.2 in
    absurd (omega arith))
    (λ (k : coefficient c ts ≡ pos 0). k) (least_covers low c None ts l)

pub least_from : (low b : ℕ) (ts : List (ℕ × ℤ)) → least low None ts ≡ Some b → low ≤ b
least_from low b ts e = least_inside low None ts (λ d f. absurd (let g : ⊥ = no_some d f in g)) b e
  where
    no_some : (d : ℕ) → None ≡ Some d → ⊥
    no_some d f = cc

-- ---- the totals so far

-- the totals of the columns below a bound
pub record AreBelow (given sums : List (ℕ × ℤ)) (low : ℕ) : Type 0 where
  pub ascends : AscendsFrom 0 sums
  pub fit : AllByRecursion (λ t. Fits t.1) sums
  pub below : IsBelow low sums
  pub same : (c : ℕ) → c < low → coefficient c sums ≡ coefficient c given
  pub small : low ≤ 4294967296

pub totals_start : (given : List (ℕ × ℤ)) → AreBelow given [] 0
totals_start given = record { ascends = tt; fit = tt; below = tt; same = λ c l. absurd (omega arith); small = omega arith }

ascends_push : (n low c : ℕ) (sums : List (ℕ × ℤ)) (z : ℤ) → n ≤ c → low ≤ c → AscendsFrom n sums → IsBelow low sums → AscendsFrom n (sums ++ (c, z) ∷ [])
ascends_push n low c [] z k l a b = (k, tt)
ascends_push n low c (t ∷ ts) z k l a b =
    let m : t.0 < low = b.0 in
    (a.0, ascends_push (t.0 + 1) low c ts z (omega arith) l a.1 b.1)

pub totals_step : (given sums : List (ℕ × ℤ)) (low b : ℕ) (z : ℤ) → AreBelow given sums low → least low None given ≡ Some b → b < 4294967296 →
    z ≡ coefficient b given → Fits z → AreBelow given (sums ++ (b, z) ∷ []) (b + 1)
totals_step given sums low b z h e m f k =
    let l : low ≤ b = least_from low b given e in
    record {
      ascends = ascends_push 0 low b sums z (omega arith) l h.ascends h.below;
      fit = all_append (λ (t : ℕ × ℤ). Fits t.1) sums ((b, z) ∷ []) h.fit (k, tt);
      below = IsBelow-append (b + 1) sums ((b, z) ∷ []) (IsBelow_more low (b + 1) sums (omega arith) h.below) (omega arith, tt);
      same = λ c j. at_column c j (cases_lt c b);
      small = omega arith;
    }
  where
    past : (c : ℕ) → low ≤ c → coefficient c sums ≡ pos 0
    past c j = coefficient_past c low sums j h.below

    joined : (c : ℕ) → coefficient c (sums ++ (b, z) ∷ []) ≡ coefficient c sums +ℤ coefficient c ((b, z) ∷ [])
    joined c = coefficient-append c sums ((b, z) ∷ [])

    other : (c : ℕ) → (b ≡ c → ⊥) → coefficient c ((b, z) ∷ []) ≡ pos 0
    other c d = coefficient_rest c (b, z) [] d

    old : (c : ℕ) → c < b → (c < low) ⊎ (low ≤ c) → coefficient c sums ≡ coefficient c given
    old c j (inl i) = h.same c i
    old c j (inr i) = past c i ∙ sym (least_some low b given e c i j)

    at_column : (c : ℕ) → c < b + 1 → (c < b) ⊎ (b ≤ c) → coefficient c (sums ++ (b, z) ∷ []) ≡ coefficient c given
    at_column c j (inl i) =
        let x = joined c in
        let y : coefficient c ((b, z) ∷ []) ≡ pos 0 = other c (λ (d : b ≡ c). omega arith) in
        let u : coefficient c sums ≡ coefficient c given = old c i (cases_lt c low) in
        omega (arith, ints, x, y, u)
    at_column c j (inr i) =
        let g : b ≡ c = omega arith in
        let P : ℕ → Type 0 = λ n. coefficient n (sums ++ (b, z) ∷ []) ≡ coefficient n given in
        let x = joined b in
        let y : coefficient b sums ≡ pos 0 = past b (least_from low b given e) in
        let u : coefficient b ((b, z) ∷ []) ≡ z = rw (eq-eqb b b refl) (omega (arith, ints)) in
        subst P g (omega (arith, ints, x, y, u, f))

pub totals_end : (given sums : List (ℕ × ℤ)) (low : ℕ) → AreBelow given sums low → least low None given ≡ None → AreTotals given sums
totals_end given sums low h e =
    record { ascends = h.ascends; fit = h.fit; same = λ c. at_column c (cases_lt c low) }
  where
    at_column : (c : ℕ) → (c < low) ⊎ (low ≤ c) → coefficient c sums ≡ coefficient c given
    at_column c (inl l) = h.same c l
    at_column c (inr l) = coefficient_past c low sums l h.below ∙ sym (least_none low given e c l)

-- ---- a sum over terms, one after the other

pub sum_one : (c : ℕ) (ts : List Term) (t : Term) (i : ℕ) (before after total : ℤ) → i < length ts → t ≡ get_or ts i t →
    before +ℤ coefficient c (terms_of (drop i ts)) ≡ total → after ≡ before +ℤ coefficient c (terms_of (t ∷ [])) → after +ℤ coefficient c (terms_of (drop (i + 1) ts)) ≡ total
sum_one c ts t i before after total l e h f =
    let k : drop i ts ≡ t ∷ drop (suc i) ts = drop-cons ts i t l ∙ (λ j. sym e j ∷ drop (suc i) ts) in
    let n : i + 1 ≡ suc i = omega arith in
    let x : coefficient c (terms_of (drop i ts)) ≡ coefficient c (terms_of (t ∷ drop (suc i) ts)) = ap (λ (us : List Term). coefficient c (terms_of us)) k in
    let y : coefficient c (terms_of (drop (i + 1) ts)) ≡ coefficient c (terms_of (drop (suc i) ts)) = ap (λ (m : ℕ). coefficient c (terms_of (drop m ts))) n in
    omega (arith, ints, x, y)
