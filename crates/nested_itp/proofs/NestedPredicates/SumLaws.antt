-- Sums read over the columns of a frame: the terms that are kept.
use Rattle.std.proofs.Common.{◌≡◌, ◌≢◌, ◌∙◌, ℕ, zero, suc, ◌+◌, ◌<◌, ◌≤◌, ℤ, pos, ◌-ℤ◌, Bool, true, false, cond, List, [], ◌∷◌, ◌++◌, length, take, drop, get_or, append_assoc, refl, sym, ap, subst, arith, ◌⊎◌, inl, inr}
use Rattle.std.specs.Prelude.{Option, None, Some, MatchOption}
use Rattle.std.specs.List.{AllByRecursion}
use Rattle.std.proofs.lemmas.Bool.{cases_eq}
use Rattle.std.proofs.lemmas.List.{drop_all, append-nil}
use Rattle.std.proofs.Math.Seq.{drop-cons}
use Rattle.math_facts.specs.Fits.{Fits}
use Rattle.math_facts.specs.Terms.{coefficient}
use Rattle.lin_rows.specs.declared.types.RowKind.TheVariants.{Le}
use Rattle.lin_rows.specs.Rows.{LinearRow, AscendsFrom}
use Rattle.lin_rows.specs.Sums.{is_zero, led_by, summed, row_of, SumsFit}
use Rattle.lin_rows.proofs.Ascending.{AscendsFrom_less, coefficient_first, coefficient_rest}
use Rattle.lin_rows.proofs.SummedLaws.{summed_from_coefficients}
use Rattle.triple_rows.specs.declared.predicates.PredNode.TheVariants.{Atom}
use Rattle.triple_rows.specs.Predicates.{prefix_of}
use Rattle.nested_itp.specs.declared.nested_predicates.wide.Wide.{Wide}
use Rattle.nested_itp.specs.NestedPredicates.Wides.{value_of, HasRoom}
use Rattle.nested_itp.specs.NestedPredicates.Sums.{terms_from, inequality}
use Rattle.nested_itp.specs.NestedPredicates.Runnings.{value_at, behind_first, differences, AreSumTerms}

-- ---- numbers at places

pub value_found : (ws : List Wide) (k : ℕ) (d : Wide) → k < length ws → value_of (get_or ws k d) ≡ value_at ws k
value_found [] k d l = absurd (omega (arith, l))
value_found (w ∷ ws) zero d l = refl
value_found (w ∷ ws) (suc k) d l = value_found ws k d (omega (arith, l))

pub value_past : (ws : List Wide) (k : ℕ) → length ws ≤ k → value_at ws k ≡ pos 0
value_past [] k l = refl
value_past (w ∷ ws) zero l = absurd (omega (arith, l))
value_past (w ∷ ws) (suc k) l = value_past ws k (omega (arith, l))

pub room_found : (ws : List Wide) (k : ℕ) (d : Wide) → k < length ws → AllByRecursion HasRoom ws → HasRoom (get_or ws k d)
room_found [] k d l h = absurd (omega (arith, l))
room_found (w ∷ ws) zero d l h = h.0
room_found (w ∷ ws) (suc k) d l h = room_found ws k d (omega (arith, l)) h.1

-- ---- the row of ascending terms

pub terms_stay : (ts : List (ℕ × ℤ)) → AreSumTerms ts → summed ts ≡ ts
terms_stay ts h = sym (summed_from_coefficients ts ts h.ascends h.not_zero (λ c. refl))

pub fits_zero : Fits (pos 0)
fits_zero = omega arith

front_ascends : (low k : ℕ) (ts : List (ℕ × ℤ)) → AscendsFrom low ts → AscendsFrom low (take k ts)
front_ascends low zero ts up = tt
front_ascends low (suc k) [] up = tt
front_ascends low (suc k) (t ∷ ts) up = (up.0, front_ascends (t.0 + 1) k ts up.1)

first_or_rest : (c : ℕ) (t : ℕ × ℤ) (front : List (ℕ × ℤ)) → AscendsFrom (t.0 + 1) front → Fits t.1 → Fits (coefficient c front) → (t.0 ≡ c) ⊎ (t.0 ≡ c → ⊥) →
    Fits (coefficient c (t ∷ front))
first_or_rest c t front up f g (inl e) = rw (coefficient_first c t front up e) f
first_or_rest c t front up f g (inr n) = rw (coefficient_rest c t front n) g

pub part_fits : (low c k : ℕ) (ts : List (ℕ × ℤ)) → AscendsFrom low ts → AllByRecursion (λ t. Fits t.1) ts → Fits (coefficient c (take k ts))
part_fits low c zero ts up f = fits_zero
part_fits low c (suc k) [] up f = fits_zero
part_fits low c (suc k) (t ∷ ts) up f =
    first_or_rest c t (take k ts) (front_ascends (t.0 + 1) k ts up.1) f.0 (part_fits (t.0 + 1) c k ts up.1 f.1) (cases_eq t.0 c)

pub sums_fit : (ts : List (ℕ × ℤ)) (bound : ℤ) → AreSumTerms ts → Fits bound → SumsFit ts bound
sums_fit ts bound h f = record { each = h.fit; sums = λ c k. part_fits 0 c k ts h.ascends h.fit; bound_fits = f }

pub atom_of : (ts : List (ℕ × ℤ)) (bound : ℤ) (found : LinearRow) → length ts ≢ 0 → AreSumTerms ts → found ≡ row_of ts Le bound → Atom found ∷ [] ≡ prefix_of (inequality ts bound)
atom_of [] bound found n h e = absurd (n refl)
atom_of (t ∷ ts) bound found n h e =
    let s : row_of (t ∷ ts) Le bound ≡ record { terms = t ∷ ts; kind = Le; bound = bound } =
    ap (λ (l : List (ℕ × ℤ)). let r : LinearRow = record { terms = l; kind = Le; bound = bound } in r) (terms_stay (t ∷ ts) h) in
    ap (λ (r : LinearRow). Atom r ∷ []) (e ∙ s)

-- ---- the terms, one column after another

led_front : (c : ℕ) (a : ℤ) (ts : List (ℕ × ℤ)) → led_by c a ts ≡ led_by c a [] ++ ts
led_front c a ts = led (is_zero a)
  where
    led : (z : Bool) → cond z ts ((c, a) ∷ ts) ≡ cond z [] ((c, a) ∷ []) ++ ts
    led true = refl
    led false = refl

difference_count : (columns known : List Wide) (here : List ℕ) → length (differences columns known here) ≡ length here
difference_count columns known [] = refl
difference_count columns known (v ∷ vs) = ap suc (difference_count columns (behind_first known) vs)

behind_value : (ws : List Wide) (j : ℕ) → value_at (behind_first ws) j ≡ value_at ws (suc j)
behind_value [] j = refl
behind_value (w ∷ ws) j = refl

difference_at : (columns known : List Wide) (here : List ℕ) (j : ℕ) → j < length here →
    get_or (differences columns known here) j (pos 0) ≡ value_at columns (get_or here j 0) -ℤ value_at known j
difference_at columns known [] j l = absurd (omega (arith, l))
difference_at columns known (v ∷ vs) zero l = refl
difference_at columns known (v ∷ vs) (suc j) l =
    difference_at columns (behind_first known) vs j (omega (arith, l)) ∙ ap (λ (z : ℤ). value_at columns (get_or vs j 0) -ℤ z) (behind_value known j)

-- the columns from number j on are left
pub record ColumnsLeft (numbers : List ℤ) (j : ℕ) (terms : List (ℕ × ℤ)) : Type 0 where
  pub rest : terms ++ terms_from j (drop j numbers) ≡ terms_from 0 numbers
  pub all : AllByRecursion Fits (drop j numbers) → AllByRecursion Fits numbers
  pub left : AllByRecursion Fits numbers → AllByRecursion Fits (drop j numbers)

number_front : (numbers : List ℤ) (j : ℕ) → j < length numbers → drop j numbers ≡ get_or numbers j (pos 0) ∷ drop (j + 1) numbers
number_front numbers j l = drop-cons numbers j (pos 0) l ∙ ap (λ (n : ℕ). get_or numbers j (pos 0) ∷ drop n numbers) (let e : suc j ≡ j + 1 = omega arith in e)

-- the number of the next column is that difference
pub next_number : (columns known : List Wide) (here : List ℕ) (j : ℕ) → j < length here →
    drop j (differences columns known here) ≡ (value_at columns (get_or here j 0) -ℤ value_at known j) ∷ drop (j + 1) (differences columns known here)
next_number columns known here j l =
    number_front (differences columns known here) j (let c : length (differences columns known here) ≡ length here = difference_count columns known here in omega (arith, l, c)) ∙
    ap (λ (z : ℤ). z ∷ drop (j + 1) (differences columns known here)) (difference_at columns known here j l)

pub column_read : (numbers : List ℤ) (j : ℕ) (z : ℤ) (terms new : List (ℕ × ℤ)) → drop j numbers ≡ z ∷ drop (j + 1) numbers → Fits z → new ≡ terms ++ led_by j z [] →
    ColumnsLeft numbers j terms → ColumnsLeft numbers (j + 1) new
column_read numbers j z terms new f fits e h =
    let more : List (ℕ × ℤ) = terms_from (j + 1) (drop (j + 1) numbers) in
    let s : suc j ≡ j + 1 = omega arith in
    let a : terms_from j (drop j numbers) ≡ led_by j z [] ++ more =
    ap (terms_from j) f ∙ ap (λ (n : ℕ). led_by j z (terms_from n (drop (j + 1) numbers))) s ∙ led_front j z more in
    record {
      rest = ap (λ (l : List (ℕ × ℤ)). l ++ more) e ∙ append_assoc terms (led_by j z []) more ∙ ap (λ (l : List (ℕ × ℤ)). terms ++ l) (sym a) ∙ h.rest;
      all = λ k. h.all (subst (AllByRecursion Fits) (sym f) (fits, k));
      left = λ k. (subst (AllByRecursion Fits) f (h.left k)).1;
    }

pub column_past : (numbers : List ℤ) (j : ℕ) (z : ℤ) (terms : List (ℕ × ℤ)) → drop j numbers ≡ z ∷ drop (j + 1) numbers → (Fits z → ⊥) → ColumnsLeft numbers j terms →
    AllByRecursion Fits numbers → ⊥
column_past numbers j z terms f n h k = n (subst (AllByRecursion Fits) f (h.left k)).0

pub columns_read : (columns known : List Wide) (here : List ℕ) (j : ℕ) (terms : List (ℕ × ℤ)) → length here ≤ j → ColumnsLeft (differences columns known here) j terms →
    (terms ≡ terms_from 0 (differences columns known here)) × AllByRecursion Fits (differences columns known here)
columns_read columns known here j terms l h =
    let numbers : List ℤ = differences columns known here in
    let e : drop j numbers ≡ [] = drop_all j numbers (let c : length numbers ≡ length here = difference_count columns known here in omega (arith, l, c)) in
    (sym (append-nil terms) ∙ ap (λ (l : List (ℕ × ℤ)). terms ++ l) (sym (ap (terms_from j) e)) ∙ h.rest, h.all (subst (AllByRecursion Fits) (sym e) tt))

-- ---- what the terms are

not_zero_is : (a : ℤ) → is_zero a ≡ false → a ≢ pos 0
not_zero_is a e z = absurd (let t : is_zero (pos 0) ≡ false = subst (λ (x : ℤ). is_zero x ≡ false) z e in cc)

kept_terms : (n : ℕ) (numbers : List ℤ) → AllByRecursion Fits numbers →
    AscendsFrom n (terms_from n numbers) × (AllByRecursion (λ t. t.1 ≢ pos 0) (terms_from n numbers) × AllByRecursion (λ t. Fits t.1) (terms_from n numbers))
kept_terms n [] h = (tt, (tt, tt))
kept_terms n (a ∷ numbers) h = kept (is_zero a) refl (kept_terms (suc n) numbers h.1)
  where
    kept : (z : Bool) → z ≡ is_zero a → AscendsFrom (suc n) (terms_from (suc n) numbers) ×
        (AllByRecursion (λ t. t.1 ≢ pos 0) (terms_from (suc n) numbers) × AllByRecursion (λ t. Fits t.1) (terms_from (suc n) numbers)) →
        AscendsFrom n (cond z (terms_from (suc n) numbers) ((n, a) ∷ terms_from (suc n) numbers)) ×
        (AllByRecursion (λ t. t.1 ≢ pos 0) (cond z (terms_from (suc n) numbers) ((n, a) ∷ terms_from (suc n) numbers)) ×
        AllByRecursion (λ t. Fits t.1) (cond z (terms_from (suc n) numbers) ((n, a) ∷ terms_from (suc n) numbers)))
    kept true e k = (AscendsFrom_less n (suc n) (terms_from (suc n) numbers) (omega arith) k.0, k.1)
    kept false e k = (
      (omega arith, subst (λ (m : ℕ). AscendsFrom m (terms_from (suc n) numbers)) (let s : suc n ≡ n + 1 = omega arith in s) k.0),
      ((not_zero_is a (sym e), k.1.0), (h.0, k.1.1)),
    )

pub are_sum_terms : (numbers : List ℤ) → AllByRecursion Fits numbers → AreSumTerms (terms_from 0 numbers)
are_sum_terms numbers h =
    let k = kept_terms 0 numbers h in
    record { ascends = k.0; not_zero = k.1.0; fit = k.1.1 }

pub none_then : {A : Type 0} (o : Option A) (P : Type 0) (Q : A → Type 0) → ((x : A) → o ≡ Some x → ⊥) → MatchOption o P Q → P
none_then None P Q n h = h
none_then (Some x) P Q n h = absurd (n x refl)
