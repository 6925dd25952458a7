-- Why a tightened row holds at the same whole points, and what the greatest common divisor of its coefficients is.
use Rattle.std.proofs.Common.{◌≡◌, ◌≢◌, ◌↔◌, ℕ, zero, suc, ◌+◌, ◌%◌, ◌^◌, ◌<◌, ◌≤◌, Bool, true, false, ℤ, pos, negsuc, ◌*ℤ◌, ◌≤ℤ◌, List, [], ◌∷◌, ◌++◌, length, take, drop, get_or, nat_eq, if◌then◌else◌, ap, refl, sym, ◌∙◌, subst, arith, inl, inr, ◌⊎◌}
use Rattle.std.specs.Prelude.{unsigned_abs, int_div}
use Rattle.std.specs.Int.{int_div_euclid, IsGcd, ◌∣◌}
use Rattle.std.specs.List.{AllByRecursion}
use Rattle.std.proofs.lemmas.Int.{ints}
use Rattle.std.proofs.lemmas.Bool.{eqb-true, eqb-false, eq-eqb, and_parts, and_from, cases_eq, false≢true}
use Rattle.std.proofs.lemmas.Nat.Gcd.{dvd_refl, dvd_trans, dvd-zero, le_of_dvd, dvd_of_mod-eq-zero, mod-eq-zero_of_dvd}
use Rattle.std.proofs.Math.Nat.{one-dvd, eq-zero_of_zero-dvd}
use Rattle.std.proofs.Math.Dec.{lit<}
use Rattle.std.proofs.lemmas.List.{take_more, take-append-drop, map_more}
use Rattle.math_facts.specs.Fits.{Fits}
use Rattle.math_facts.specs.Terms.{dot, scaled}
use Rattle.math_facts.proofs.TermLaws.{dot-scaled}
use Rattle.math_facts.proofs.Division.{floor_at_most, Fits-floor, exact, exact_equation, exact-nonzero, exact-int_div, multiple_rest}
use Rattle.lin_rows.specs.declared.types.RowKind.{RowKind}
use Rattle.lin_rows.specs.declared.types.RowKind.TheVariants.{Le, Eq}
use Rattle.lin_rows.specs.Rows.{LinearRow, AscendsFrom, IsCoefficient, IsRow, Stands, Holds}
use Rattle.lin_rows.specs.Tightening.{all_divisible, greatest, content, divided, never, divided_row, tightened_by, tightened}

-- ---- divisors of all coefficients

-- a divisor of all coefficients divides the first one and the others
pub all_divisible-cons : (d : ℕ) (t : ℕ × ℤ) (ts : List (ℕ × ℤ)) →
    (all_divisible d (t ∷ ts) ≡ true) ↔ ((d ∣ unsigned_abs t.1) × (all_divisible d ts ≡ true))
all_divisible-cons d t ts = (parts d t ts, whole d t ts)
  where
    parts : (d : ℕ) (t : ℕ × ℤ) (ts : List (ℕ × ℤ)) → all_divisible d (t ∷ ts) ≡ true → (d ∣ unsigned_abs t.1) × (all_divisible d ts ≡ true)
    parts d t ts h =
        let k : (nat_eq (unsigned_abs t.1 % d) 0 ≡ true) × (all_divisible d ts ≡ true) = and_parts (nat_eq (unsigned_abs t.1 % d) 0) (all_divisible d ts) h in
        (dvd_of_mod-eq-zero d (eqb-true (unsigned_abs t.1 % d) 0 k.0), k.1)

    whole : (d : ℕ) (t : ℕ × ℤ) (ts : List (ℕ × ℤ)) → (d ∣ unsigned_abs t.1) × (all_divisible d ts ≡ true) → all_divisible d (t ∷ ts) ≡ true
    whole d t ts h =
        and_from (nat_eq (unsigned_abs t.1 % d) 0) (all_divisible d ts) (eq-eqb (unsigned_abs t.1 % d) 0 (mod-eq-zero_of_dvd d h.0)) h.1

-- joined terms: a divisor of all divides both lists
pub all_divisible-append : (d : ℕ) (a b : List (ℕ × ℤ)) →
    (all_divisible d (a ++ b) ≡ true) ↔ ((all_divisible d a ≡ true) × (all_divisible d b ≡ true))
all_divisible-append d [] b = (λ h. (refl, h), λ h. h.1)
all_divisible-append d (t ∷ a) b = (
  λ h.
      let k : (d ∣ unsigned_abs t.1) × (all_divisible d (a ++ b) ≡ true) = (all_divisible-cons d t (a ++ b)).0 h in
      let l : (all_divisible d a ≡ true) × (all_divisible d b ≡ true) = (all_divisible-append d a b).0 k.1 in
      ((all_divisible-cons d t a).1 (k.0, l.0), l.1),
  λ h.
      let k : (d ∣ unsigned_abs t.1) × (all_divisible d a ≡ true) = (all_divisible-cons d t a).0 h.0 in
      (all_divisible-cons d t (a ++ b)).1 (k.0, (all_divisible-append d a b).1 (k.1, h.1)),
)

-- 1 divides all
pub all_divisible_one : (ts : List (ℕ × ℤ)) → all_divisible 1 ts ≡ true
all_divisible_one [] = refl
all_divisible_one (t ∷ ts) = (all_divisible-cons 1 t ts).1 (one-dvd (unsigned_abs t.1), all_divisible_one ts)

-- a divisor of a divisor
pub all_divisible-trans : (d g : ℕ) (ts : List (ℕ × ℤ)) → d ∣ g → all_divisible g ts ≡ true → all_divisible d ts ≡ true
all_divisible-trans d g [] h k = refl
all_divisible-trans d g (t ∷ ts) h k =
    let p : (g ∣ unsigned_abs t.1) × (all_divisible g ts ≡ true) = (all_divisible-cons g t ts).0 k in
    (all_divisible-cons d t ts).1 (dvd_trans d h p.0, all_divisible-trans d g ts h p.1)

-- ---- the greatest common divisor of the coefficients

-- what is found passes, unless nothing passes
greatest_passes : (p : ℕ → Bool) (n : ℕ) → 0 < greatest p n → p (greatest p n) ≡ true
greatest_passes p zero h = absurd (omega arith)
greatest_passes p (suc n) h = by_test (p (suc n)) refl (greatest_passes p n) h
  where
    by_test : (b : Bool) → p (suc n) ≡ b → (0 < greatest p n → p (greatest p n) ≡ true) →
        0 < (if b then suc n else greatest p n) → p (if b then suc n else greatest p n) ≡ true
    by_test true e f k = e
    by_test false e f k = f k

-- nothing that passes is greater
greatest_at_least : (p : ℕ → Bool) (n g : ℕ) → g ≤ n → p g ≡ true → g ≤ greatest p n
greatest_at_least p zero g l h = omega arith
greatest_at_least p (suc n) g l h = by_test (p (suc n)) refl (λ (k : g ≤ n). greatest_at_least p n g k h) (cases_eq g (suc n))
  where
    by_test : (b : Bool) → p (suc n) ≡ b → (g ≤ n → g ≤ greatest p n) → ((g ≡ suc n) ⊎ (g ≡ suc n → ⊥)) → g ≤ (if b then suc n else greatest p n)
    by_test true e f c = l
    by_test false e f (inl d) = absurd (false≢true (sym e ∙ ap p (sym d) ∙ h))
    by_test false e f (inr d) = f (omega arith)

-- where it is not 0, it divides each coefficient
pub content_divides : (ts : List (ℕ × ℤ)) → 0 < content ts → all_divisible (content ts) ts ≡ true
unfolding content
content_divides [] h = refl
content_divides (t ∷ ts) h = greatest_passes (λ g. all_divisible g (t ∷ ts)) (unsigned_abs t.1) h

abs_positive : (z : ℤ) → z ≢ pos 0 → 0 < unsigned_abs z
abs_positive z h = omega (arith, ints)

-- each divisor of all coefficients is at most that, where the first coefficient is not 0
pub content_at_least : (t : ℕ × ℤ) (ts : List (ℕ × ℤ)) (d : ℕ) → t.1 ≢ pos 0 → all_divisible d (t ∷ ts) ≡ true → d ≤ content (t ∷ ts)
unfolding content
content_at_least t ts d n h =
    let k : d ∣ unsigned_abs t.1 = ((all_divisible-cons d t ts).0 h).0 in
    greatest_at_least (λ g. all_divisible g (t ∷ ts)) (unsigned_abs t.1) d (le_of_dvd (abs_positive t.1 n) k) h

-- it is not 0 there
pub content_positive : (t : ℕ × ℤ) (ts : List (ℕ × ℤ)) → t.1 ≢ pos 0 → 0 < content (t ∷ ts)
content_positive t ts n = content_at_least t ts 1 n (all_divisible_one (t ∷ ts))

-- and divides each coefficient there
pub content_divides_all : (t : ℕ × ℤ) (ts : List (ℕ × ℤ)) → t.1 ≢ pos 0 → all_divisible (content (t ∷ ts)) (t ∷ ts) ≡ true
content_divides_all t ts n = content_divides (t ∷ ts) (content_positive t ts n)

-- no other number divides all and is at least each that does
pub content_is : (t : ℕ × ℤ) (ts : List (ℕ × ℤ)) (g : ℕ) → t.1 ≢ pos 0 → all_divisible g (t ∷ ts) ≡ true →
    ((d : ℕ) → all_divisible d (t ∷ ts) ≡ true → d ≤ g) → content (t ∷ ts) ≡ g
content_is t ts g n h f =
    let a : g ≤ content (t ∷ ts) = content_at_least t ts g n h in
    let b : content (t ∷ ts) ≤ g = f (content (t ∷ ts)) (content_divides_all t ts n) in
    omega arith

-- a divisor of all coefficients is not 0, where one of them is not 0
pub divisor_positive : (t : ℕ × ℤ) (ts : List (ℕ × ℤ)) (g : ℕ) → t.1 ≢ pos 0 → all_divisible g (t ∷ ts) ≡ true → 0 < g
divisor_positive t ts zero n h =
    let z : unsigned_abs t.1 ≡ 0 = eq-zero_of_zero-dvd ((all_divisible-cons 0 t ts).0 h).0 in
    let p : 0 < unsigned_abs t.1 = abs_positive t.1 n in
    absurd (omega arith)
divisor_positive t ts (suc g) n h = omega arith

-- the same, where each number that divides all divides it
pub content_is_gcd : (t : ℕ × ℤ) (ts : List (ℕ × ℤ)) (g : ℕ) → t.1 ≢ pos 0 → all_divisible g (t ∷ ts) ≡ true →
    ((d : ℕ) → all_divisible d (t ∷ ts) ≡ true → d ∣ g) → content (t ∷ ts) ≡ g
content_is_gcd t ts g n h f =
    content_is t ts g n h (λ d k. le_of_dvd (divisor_positive t ts g n h) (f d k))

-- a row's number whose divisors are those of all coefficients, which is what Euclid's algorithm keeps
pub content_from_divisors : (ts : List (ℕ × ℤ)) (g : ℕ) → AllByRecursion IsCoefficient ts →
    ((d : ℕ) → (d ∣ g) ↔ (all_divisible d ts ≡ true)) → content ts ≡ g
unfolding content
content_from_divisors [] g r f = sym (eq-zero_of_zero-dvd ((f 0).1 refl))
content_from_divisors (t ∷ ts) g r f =
    content_is_gcd t ts g r.0.is_not_zero ((f g).0 (dvd_refl g)) (λ d k. (f d).1 k)

-- no coefficient yet: each number divides 0
pub divisors_none : (d : ℕ) → (d ∣ 0) ↔ (all_divisible d [] ≡ true)
divisors_none d = (λ h. refl, λ h. dvd-zero d)

-- one coefficient more: the divisors are those of the greatest common divisor with it
pub divisors_more : (ts : List (ℕ × ℤ)) (i g h : ℕ) (e : ℕ × ℤ) → i < length ts → IsGcd g (unsigned_abs (get_or ts i e).1) h →
    ((d : ℕ) → (d ∣ g) ↔ (all_divisible d (take i ts) ≡ true)) →
    (d : ℕ) → (d ∣ h) ↔ (all_divisible d (take (i + 1) ts) ≡ true)
divisors_more ts i g h e l p f d =
    let t : ℕ × ℤ = get_or ts i e in
    rw (take_more ts i e l) (
      λ (k : d ∣ h). (all_divisible-append d (take i ts) (t ∷ [])).1 (
        (f d).0 (dvd_trans d k p.0),
        (all_divisible-cons d t []).1 (dvd_trans d k p.1, refl),
      ),
      λ (k : all_divisible d (take i ts ++ t ∷ []) ≡ true).
          let m : (all_divisible d (take i ts) ≡ true) × (all_divisible d (t ∷ []) ≡ true) = (all_divisible-append d (take i ts) (t ∷ [])).0 k in
          p.2 d ((f d).1 m.0) ((all_divisible-cons d t []).0 m.1).0,
    )

-- where the divisors so far are those of 1, so are those of all coefficients
pub content_one : (ts : List (ℕ × ℤ)) (i : ℕ) → AllByRecursion IsCoefficient ts →
    ((d : ℕ) → (d ∣ 1) ↔ (all_divisible d (take i ts) ≡ true)) → content ts ≡ 1
content_one ts i r f =
    content_from_divisors ts 1 r (λ d. (
      λ (h : d ∣ 1). all_divisible-trans d 1 ts h (all_divisible_one ts),
      λ (h : all_divisible d ts ≡ true).
          let k : all_divisible d (take i ts ++ drop i ts) ≡ true = rw take-append-drop h in
          (f d).1 ((all_divisible-append d (take i ts) (drop i ts)).0 k).0,
    ))

-- what is found is at most n
greatest_below : (p : ℕ → Bool) (n : ℕ) → greatest p n ≤ n
greatest_below p zero = omega arith
greatest_below p (suc n) = by_test (p (suc n)) (greatest_below p n)
  where
    by_test : (b : Bool) → greatest p n ≤ n → (if b then suc n else greatest p n) ≤ suc n
    by_test true h = omega arith
    by_test false h = omega arith

-- it is at most the first coefficient's magnitude
pub content_below : (t : ℕ × ℤ) (ts : List (ℕ × ℤ)) → content (t ∷ ts) ≤ unsigned_abs t.1
unfolding content
content_below t ts = greatest_below (λ g. all_divisible g (t ∷ ts)) (unsigned_abs t.1)

-- so it fits, as a natural number below 2^127
pub content_fits : (ts : List (ℕ × ℤ)) → AllByRecursion IsCoefficient ts → content ts < 2 ^ 127
unfolding content
content_fits [] v = lit< tt
content_fits (t ∷ ts) v = let l : content (t ∷ ts) ≤ unsigned_abs t.1 = content_below t ts in let f : unsigned_abs t.1 < 2 ^ 127 = v.0.fits in omega arith

-- it is 0 only where there is no term
pub content_zero : (ts : List (ℕ × ℤ)) → AllByRecursion IsCoefficient ts → content ts ≡ 0 → ts ≡ []
content_zero [] v e = refl
content_zero (t ∷ ts) v e = let p : 0 < content (t ∷ ts) = content_positive t ts v.0.is_not_zero in absurd (omega arith)

-- a divisor of all coefficients leaves no rest at a place
pub rest_at : (d : ℕ) (ts : List (ℕ × ℤ)) (i : ℕ) (e : ℕ × ℤ) → i < length ts → all_divisible d ts ≡ true → unsigned_abs (get_or ts i e).1 % d ≡ 0
rest_at d [] i e l h = absurd (omega arith)
rest_at d (t ∷ ts) zero e l h = mod-eq-zero_of_dvd d ((all_divisible-cons d t ts).0 h).0
rest_at d (t ∷ ts) (suc i) e l h = rest_at d ts i e (omega arith) ((all_divisible-cons d t ts).0 h).1

-- what stands at a place of a row
pub IsCoefficient_at : (ts : List (ℕ × ℤ)) (i : ℕ) (e : ℕ × ℤ) → i < length ts → AllByRecursion IsCoefficient ts → IsCoefficient (get_or ts i e)
IsCoefficient_at [] i e l h = absurd (omega arith)
IsCoefficient_at (t ∷ ts) zero e l h = h.0
IsCoefficient_at (t ∷ ts) (suc i) e l h = IsCoefficient_at ts i e (omega arith) h.1

-- one coefficient more is divided, by the code's `/`, which rounds toward zero
pub divided_more : (g : ℕ) (ts : List (ℕ × ℤ)) (i : ℕ) (e : ℕ × ℤ) → 0 < g → i < length ts → all_divisible g ts ≡ true →
    divided g (take (i + 1) ts) ≡ divided g (take i ts) ++ ((get_or ts i e).0, int_div (get_or ts i e).1 (pos g)) ∷ []
divided_more g ts i e p l h =
    let d : int_div (get_or ts i e).1 (pos g) ≡ int_div_euclid (get_or ts i e).1 (pos g) = exact-int_div g (get_or ts i e).1 p (rest_at g ts i e l h) in
    rw d (map_more (λ (t : ℕ × ℤ). (t.0, int_div_euclid t.1 (pos g))) ts i e l)

-- ---- the law

-- a number that passes the test of divisibility
rest_is_zero : (g : ℕ) (t : ℕ × ℤ) (ts : List (ℕ × ℤ)) → all_divisible g (t ∷ ts) ≡ true → unsigned_abs t.1 % g ≡ 0
rest_is_zero g t ts h = mod-eq-zero_of_dvd g ((all_divisible-cons g t ts).0 h).0

-- terms divided by g, and then taken g times
pub scaled-divided : (g : ℕ) (ts : List (ℕ × ℤ)) → 0 < g → all_divisible g ts ≡ true → scaled (pos g) (divided g ts) ≡ ts
scaled-divided g [] p h = refl
scaled-divided g (t ∷ ts) p h =
    let e : pos g *ℤ int_div_euclid t.1 (pos g) ≡ t.1 = exact g t.1 p (rest_is_zero g t ts h) in
    let f : scaled (pos g) (divided g ts) ≡ ts = scaled-divided g ts p ((all_divisible-cons g t ts).0 h).1 in
    rw (e, f)

-- so their value is that of the divided terms, g times
pub dot-divided : (point : ℕ → ℤ) (g : ℕ) (ts : List (ℕ × ℤ)) → 0 < g → all_divisible g ts ≡ true → pos g *ℤ dot point (divided g ts) ≡ dot point ts
dot-divided point g ts p h = sym (dot-scaled point (pos g) (divided g ts)) ∙ ap (dot point) (scaled-divided g ts p h)

-- a row divided by a number that divides each coefficient holds at the same points
pub holds_divided : (point : ℕ → ℤ) (kind : RowKind) (g : ℕ) (ts : List (ℕ × ℤ)) (b : ℤ) → 0 < g → all_divisible g ts ≡ true →
    Stands kind (dot point ts) b ↔ Holds point (divided_row kind g ts b)
holds_divided point Le g ts b p h =
    let e : pos g *ℤ dot point (divided g ts) ≡ dot point ts = dot-divided point g ts p h in
    subst (λ (z : ℤ). (z ≤ℤ b) ↔ (dot point (divided g ts) ≤ℤ int_div_euclid b (pos g))) e (floor_at_most g (dot point (divided g ts)) b p)
holds_divided point Eq g ts b p h = by_test (nat_eq (unsigned_abs b % g) 0) refl (dot-divided point g ts p h)
  where
    by_test : (c : Bool) → nat_eq (unsigned_abs b % g) 0 ≡ c → pos g *ℤ dot point (divided g ts) ≡ dot point ts →
        (dot point ts ≡ b) ↔ Holds point (if c then (record { terms = divided g ts; kind = Eq; bound = int_div_euclid b (pos g) }) else never)
    by_test true t e =
        subst (λ (z : ℤ). (z ≡ b) ↔ (dot point (divided g ts) ≡ int_div_euclid b (pos g))) e
        (exact_equation g (dot point (divided g ts)) b p (eqb-true (unsigned_abs b % g) 0 t))
    by_test false t e = (
      λ (k : dot point ts ≡ b). absurd (eqb-false (unsigned_abs b % g) 0 t (multiple_rest g (dot point (divided g ts)) b (e ∙ k))),
      λ (k : pos 0 ≤ℤ negsuc 0). absurd (omega (arith, ints)),
    )

-- a row tightened by its greatest common divisor g holds at the same points; it need not be valid
pub holds_tightened_by : (point : ℕ → ℤ) (r : LinearRow) (g : ℕ) → content r.terms ≡ g → Holds point r ↔ Holds point (tightened_by g r)
holds_tightened_by point r zero e = (λ h. h, λ h. h)
holds_tightened_by point r (suc g) e =
    holds_divided point r.kind (suc g) r.terms r.bound (omega arith)
    (subst (λ (n : ℕ). all_divisible n r.terms ≡ true) e (content_divides r.terms (omega arith)))

-- a tightened row holds at the same points
pub holds_tightened : (point : ℕ → ℤ) (r : LinearRow) → IsRow r → Holds point r ↔ Holds point (tightened r)
holds_tightened point r v = holds_tightened_by point r (content r.terms) refl

-- ---- a tightened row is a row

-- division moves no column
pub AscendsFrom-divided : (c g : ℕ) (ts : List (ℕ × ℤ)) → AscendsFrom c ts → AscendsFrom c (divided g ts)
AscendsFrom-divided c g [] h = tt
AscendsFrom-divided c g (t ∷ ts) h = (h.0, AscendsFrom-divided (t.0 + 1) g ts h.1)

-- coefficients that g divides stay apart from 0, and fit
pub IsCoefficient-divided : (g : ℕ) (ts : List (ℕ × ℤ)) → 0 < g → all_divisible g ts ≡ true → AllByRecursion IsCoefficient ts → AllByRecursion IsCoefficient (divided g ts)
IsCoefficient-divided g [] p h v = tt
IsCoefficient-divided g (t ∷ ts) p h v = (
  record { is_not_zero = exact-nonzero g t.1 p (rest_is_zero g t ts h) v.0.is_not_zero; fits = Fits-floor g t.1 v.0.fits },
  IsCoefficient-divided g ts p ((all_divisible-cons g t ts).0 h).1 v.1,
)

-- `0 <= -1` is a row
pub never_is_row : IsRow never
never_is_row = record { ascends = tt; coefficients = tt; bound_fits = lit< tt }

divided_is_row : (kind : RowKind) (g : ℕ) (ts : List (ℕ × ℤ)) (b : ℤ) → 0 < g → all_divisible g ts ≡ true →
    AscendsFrom 0 ts → AllByRecursion IsCoefficient ts → Fits b → IsRow (divided_row kind g ts b)
divided_is_row Le g ts b p h a v f = record {
  ascends = AscendsFrom-divided 0 g ts a;
  coefficients = IsCoefficient-divided g ts p h v;
  bound_fits = Fits-floor g b f;
}
divided_is_row Eq g ts b p h a v f = by_test (nat_eq (unsigned_abs b % g) 0)
  where
    by_test : (c : Bool) → IsRow (if c then (record { terms = divided g ts; kind = Eq; bound = int_div_euclid b (pos g) }) else never)
    by_test true = record {
      ascends = AscendsFrom-divided 0 g ts a;
      coefficients = IsCoefficient-divided g ts p h v;
      bound_fits = Fits-floor g b f;
    }
    by_test false = never_is_row

tightened_by_is_row : (r : LinearRow) (g : ℕ) → content r.terms ≡ g → IsRow r → IsRow (tightened_by g r)
tightened_by_is_row r zero e v = v
tightened_by_is_row r (suc g) e v =
    divided_is_row r.kind (suc g) r.terms r.bound (omega arith)
    (subst (λ (n : ℕ). all_divisible n r.terms ≡ true) e (content_divides r.terms (omega arith)))
    v.ascends v.coefficients v.bound_fits

-- a tightened row is a row
pub tightened_is_row : (r : LinearRow) → IsRow r → IsRow (tightened r)
tightened_is_row r v = tightened_by_is_row r (content r.terms) refl v

-- what tightening gives, once the greatest common divisor is known
pub tightened_as : (r : LinearRow) (g : ℕ) → content r.terms ≡ g → tightened r ≡ tightened_by g r
tightened_as r g e = ap (λ (n : ℕ). tightened_by n r) e
