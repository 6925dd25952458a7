-- Rows with renamed columns: their numbers fit, since no two columns get one number.
use Rattle.std.proofs.Common.{◌≡◌, ℕ, zero, suc, ◌+◌, ◌<◌, Bool, true, false, ℤ, pos, negsuc, ◌+ℤ◌, List, [], ◌∷◌, length, take, map, nat_eq, if◌then◌else◌, refl, sym, ap, subst, inl, inr, arith, lit<}
use Rattle.std.specs.Prelude.{slice_index}
use Rattle.std.specs.List.{AllByRecursion}
use Rattle.std.proofs.lemmas.Int.{ints}
use Rattle.std.proofs.lemmas.Bool.{eqb-true}
use Rattle.math_facts.specs.Fits.{Fits}
use Rattle.math_facts.specs.Terms.{coefficient, IsBelow}
use Rattle.lin_rows.specs.Rows.{LinearRow, AscendsFrom, IsCoefficient, IsRow}
use Rattle.lin_rows.specs.Sums.{SumsFit}
use Rattle.nwa_base.specs.Members.{Member}
use Rattle.letter_acts.specs.Invariant.{AreDistinct}
use Rattle.letter_acts.specs.FrameRows.Rows.{NamesDiffer, RowsAreNamed}

-- the columns of terms
abbrev columns_in : List (ℕ × ℤ) → List ℕ
columns_in ts = map (λ t. t.0) ts

coefficient_absent : (c : ℕ) (ts : List (ℕ × ℤ)) → (Member (columns_in ts) c → ⊥) → coefficient c ts ≡ pos 0
coefficient_absent c [] n = refl
coefficient_absent c (t ∷ ts) n = by_test (nat_eq t.0 c) refl (coefficient_absent c ts (λ m. n (inr m)))
  where
    by_test : (b : Bool) → nat_eq t.0 c ≡ b → coefficient c ts ≡ pos 0 → (if b then t.1 else pos 0) +ℤ coefficient c ts ≡ pos 0
    by_test true e h = absurd (n (inl (eqb-true t.0 c e)))
    by_test false e h = omega (arith, ints)

-- the coefficient of a column that stands in one term at most is that of this term, or 0
coefficient_fits : (c : ℕ) (ts : List (ℕ × ℤ)) → AreDistinct (columns_in ts) → AllByRecursion (λ t. Fits t.1) ts → Fits (coefficient c ts)
coefficient_fits c [] d f = lit< tt
coefficient_fits c (t ∷ ts) d f = by_test (nat_eq t.0 c) refl (coefficient_fits c ts d.1 f.1)
  where
    by_test : (b : Bool) → nat_eq t.0 c ≡ b → Fits (coefficient c ts) → Fits ((if b then t.1 else pos 0) +ℤ coefficient c ts)
    by_test true e h =
        let z : coefficient c ts ≡ pos 0 = coefficient_absent c ts (λ m. d.0 (subst (Member (columns_in ts)) (sym (eqb-true t.0 c e)) m)) in
        let k : t.1 +ℤ coefficient c ts ≡ t.1 = omega (arith, ints) in
        subst Fits (sym k) f.0
    by_test false e h =
        let k : pos 0 +ℤ coefficient c ts ≡ coefficient c ts = omega (arith, ints) in
        subst Fits (sym k) h

member_taken : (k : ℕ) (ts : List (ℕ × ℤ)) (c : ℕ) → Member (columns_in (take k ts)) c → Member (columns_in ts) c
member_taken zero ts c m = absurd m
member_taken (suc k) [] c m = m
member_taken (suc k) (t ∷ ts) c m = elim m [ inl e ↦ inl e | inr h ↦ inr (member_taken k ts c h) ]

distinct_taken : (k : ℕ) (ts : List (ℕ × ℤ)) → AreDistinct (columns_in ts) → AreDistinct (columns_in (take k ts))
distinct_taken zero ts d = tt
distinct_taken (suc k) [] d = tt
distinct_taken (suc k) (t ∷ ts) d = (λ m. d.0 (member_taken k ts t.0 m), distinct_taken k ts d.1)

fit_taken : (k : ℕ) (ts : List (ℕ × ℤ)) → AllByRecursion (λ t. Fits t.1) ts → AllByRecursion (λ t. Fits t.1) (take k ts)
fit_taken zero ts f = tt
fit_taken (suc k) [] f = tt
fit_taken (suc k) (t ∷ ts) f = (f.0, fit_taken k ts f.1)

pub distinct_sums_fit : (ts : List (ℕ × ℤ)) (bound : ℤ) → AreDistinct (columns_in ts) → AllByRecursion (λ t. Fits t.1) ts → Fits bound → SumsFit ts bound
distinct_sums_fit ts bound d f b = record {
  each = f;
  sums = λ c k. coefficient_fits c (take k ts) (distinct_taken k ts d) (fit_taken k ts f);
  bound_fits = b;
}

-- ---- renamed terms

number_at : (columns : List ℕ) (i : ℕ) → i < length columns → Member columns (slice_index columns i)
number_at [] i l = absurd (omega arith)
number_at (c ∷ cs) zero l = inl refl
number_at (c ∷ cs) (suc i) l = inr (number_at cs i (omega arith))

-- no two numbers of a list without repetitions are equal
pub numbers_differ : (columns : List ℕ) → AreDistinct columns → (i j : ℕ) → i < length columns → j < length columns → slice_index columns i ≡ slice_index columns j → i ≡ j
numbers_differ [] d i j l m e = absurd (omega arith)
numbers_differ (c ∷ cs) d zero zero l m e = refl
numbers_differ (c ∷ cs) d zero (suc j) l m e = absurd (d.0 (subst (Member cs) (sym e) (number_at cs j (omega arith))))
numbers_differ (c ∷ cs) d (suc i) zero l m e = absurd (d.0 (subst (Member cs) e (number_at cs i (omega arith))))
numbers_differ (c ∷ cs) d (suc i) (suc j) l m e = ap suc (numbers_differ cs d.1 i j (omega arith) (omega arith) e)

renamed_fit : (to : ℕ → ℕ) (ts : List (ℕ × ℤ)) → AllByRecursion IsCoefficient ts → AllByRecursion {X = ℕ × ℤ} (λ t. Fits t.1) (map (λ t. (to t.0, t.1)) ts)
renamed_fit to [] h = tt
renamed_fit to (t ∷ ts) h = (h.0.fits, renamed_fit to ts h.1)

renamed_columns : (names : List ℕ) (ts : List (ℕ × ℤ)) → columns_in (map (λ t. (slice_index names t.0, t.1)) ts) ≡ map (λ t. slice_index names t.0) ts
renamed_columns names [] = refl
renamed_columns names (t ∷ ts) = ap (λ (cs : List ℕ). slice_index names t.0 ∷ cs) (renamed_columns names ts)

-- ---- names that differ on the columns of a row

named_absent : (names : List ℕ) (P : ℕ → Type 0) (low c : ℕ) (ts : List (ℕ × ℤ)) → ((a b : ℕ) → P a → P b → slice_index names a ≡ slice_index names b → a ≡ b) →
    AscendsFrom low ts → AllByRecursion (λ t. P t.0) ts → c < low → P c → Member (map (λ t. slice_index names t.0) ts) (slice_index names c) → ⊥
named_absent names P low c [] f a h l k m = m
named_absent names P low c (t ∷ ts) f a h l k m = elim m [
  | inl e ↦ (let s = f t.0 c h.0 k e in let g = a.0 in absurd (omega (arith, s, g, l)))
  | inr i ↦ named_absent names P (t.0 + 1) c ts f a.1 h.1 (let g = a.0 in omega (arith, g, l)) k i
]

pub names_differ : (names : List ℕ) (P : ℕ → Type 0) (low : ℕ) (ts : List (ℕ × ℤ)) → ((a b : ℕ) → P a → P b → slice_index names a ≡ slice_index names b → a ≡ b) →
    AscendsFrom low ts → AllByRecursion (λ t. P t.0) ts → AreDistinct (map (λ t. slice_index names t.0) ts)
names_differ names P low [] f a h = tt
names_differ names P low (t ∷ ts) f a h = (named_absent names P (t.0 + 1) t.0 ts f a.1 h.1 (omega arith) h.0, names_differ names P (t.0 + 1) ts f a.1 h.1)

own_columns : (ts us : List (ℕ × ℤ)) → ((c : ℕ) → Member (columns_in ts) c → Member (columns_in us) c) → AllByRecursion (λ t. Member (columns_in us) t.0) ts
own_columns [] us f = tt
own_columns (t ∷ ts) us f = (f t.0 (inl refl), own_columns ts us (λ c m. f c (inr m)))

-- the sums of a row whose columns get names that differ fit
pub named_sums_fit : (names : List ℕ) (r : LinearRow) → NamesDiffer names r → IsRow r → SumsFit (map (λ t. (slice_index names t.0, t.1)) r.terms) r.bound
named_sums_fit names r d v =
    distinct_sums_fit (map (λ t. (slice_index names t.0, t.1)) r.terms) r.bound
    (subst AreDistinct (sym (renamed_columns names r.terms))
    (names_differ names (Member (columns_in r.terms)) 0 r.terms d v.ascends (own_columns r.terms r.terms (λ c m. m))))
    (renamed_fit (slice_index names) r.terms v.coefficients) v.bound_fits

-- `0 <= -1` has no terms
pub no_sums_fit : SumsFit [] (negsuc 0)
no_sums_fit = distinct_sums_fit [] (negsuc 0) tt tt (lit< tt)

-- ---- a table without repetitions

column_below : (n c : ℕ) (ts : List (ℕ × ℤ)) → IsBelow n ts → Member (columns_in ts) c → c < n
column_below n c [] b m = absurd m
column_below n c (t ∷ ts) b m = elim m [
  | inl e ↦ subst (λ (d : ℕ). d < n) e b.0
  | inr h ↦ column_below n c ts b.1 h
]

-- the names of the columns of a row differ where no name stands twice
pub distinct_names : (names : List ℕ) (r : LinearRow) → AreDistinct names → IsBelow (length names) r.terms → NamesDiffer names r
distinct_names names r d w = λ a b m k e. numbers_differ names d a b (column_below (length names) a r.terms w m) (column_below (length names) b r.terms w k) e

-- and so of rows
pub distinct_rows : (names : List ℕ) (rows : List LinearRow) → AreDistinct names → AllByRecursion (λ r. IsBelow (length names) r.terms) rows → RowsAreNamed names rows
distinct_rows names rows d w = record { within = w; differ = each rows w }
  where
    each : (rows : List LinearRow) → AllByRecursion (λ r. IsBelow (length names) r.terms) rows → AllByRecursion (NamesDiffer names) rows
    each [] w = tt
    each (r ∷ rows) w = (distinct_names names r d w.0, each rows w.1)
