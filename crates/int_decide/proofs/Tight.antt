-- Rows that tightening leaves as they are: a row once tightened, and the rows that a cut adds.
use Rattle.std.proofs.Common.{◌≡◌, ◌≢◌, ℕ, zero, suc, ◌*◌, ◌%◌, ◌/◌, ◌<◌, ◌≤◌, Bool, true, false, ℤ, pos, negsuc, ◌*ℤ◌, List, [], ◌∷◌, map, nat_eq, refl, sym, ap, ◌∙◌, subst, arith, if◌then◌else◌}
use Rattle.std.specs.Prelude.{unsigned_abs}
use Rattle.std.specs.Int.{int_div_euclid, ◌∣◌}
use Rattle.std.specs.List.{AllByRecursion}
use Rattle.std.proofs.Math.Nat.{mul-dvd-mul_left, mul-le-mul_left}
use Rattle.std.proofs.lemmas.Nat.Gcd.{mod-eq-zero_of_dvd}
use Rattle.std.proofs.lemmas.Bool.{eq-eqb}
use Rattle.std.proofs.lemmas.Int.{ints, unsigned_abs-mul}
use Rattle.math_facts.proofs.Division.{exact, exact-nonzero}
use Rattle.lin_rows.specs.declared.types.RowKind.{RowKind}
use Rattle.lin_rows.specs.declared.types.RowKind.TheVariants.{Le, Eq}
use Rattle.lin_rows.specs.Rows.{LinearRow, AscendsFrom, IsRow, Holds}
use Rattle.lin_rows.specs.Tightening.{all_divisible, content, divided, never, divided_row, tightened_by, tightened}
use Rattle.lin_rows.proofs.Ascending.{HasNoZero}
use Rattle.lin_rows.proofs.RowLemmas.{HasNoZero-terms}
use Rattle.lin_rows.proofs.TighteningLaw.{all_divisible-cons, content_at_least, content_divides_all, content_below, holds_tightened_by, tightened_is_row, tightened_as}
use Rattle.farkas_check.specs.Refutes.{at_most, above}
use Rattle.fm_elim.proofs.Lists.{all_map}

-- its terms are in order, none has the coefficient 0, and tightening leaves it as it is
pub record IsTight (r : LinearRow) : Type 0 where
  pub ascends : AscendsFrom 0 r.terms
  pub nonzero : HasNoZero r.terms
  pub stays : tightened r ≡ r

-- ---- division by 1

floor_one : (z : ℤ) → int_div_euclid z (pos 1) ≡ z
floor_one (pos n) = ap pos (let e : n / 1 ≡ n = omega arith in e)
floor_one (negsuc n) = ap negsuc (let e : n / 1 ≡ n = omega arith in e)

divided_one : (ts : List (ℕ × ℤ)) → divided 1 ts ≡ ts
divided_one [] = refl
divided_one (t ∷ ts) = rw (floor_one t.1, divided_one ts)

divided_row_one : (kind : RowKind) (ts : List (ℕ × ℤ)) (b : ℤ) → divided_row kind 1 ts b ≡ record { terms = ts; kind = kind; bound = b }
divided_row_one Le ts b = λ i. record { terms = divided_one ts i; kind = Le; bound = floor_one b i }
divided_row_one Eq ts b =
    let e : unsigned_abs b % 1 ≡ 0 = omega arith in
    rw (eq-eqb (unsigned_abs b % 1) 0 e) (λ i. record { terms = divided_one ts i; kind = Eq; bound = floor_one b i })

-- a row whose coefficients have no common divisor above 1 stays
pub tightened_stays : (r : LinearRow) → content r.terms ≤ 1 → tightened r ≡ r
tightened_stays r l = by_content r (content r.terms) refl l
  where
    by_content : (r : LinearRow) (g : ℕ) → content r.terms ≡ g → g ≤ 1 → tightened r ≡ r
    by_content r zero e l = tightened_as r 0 e
    by_content r (suc zero) e l = tightened_as r 1 e ∙ divided_row_one r.kind r.terms r.bound
    by_content r (suc (suc g)) e l = absurd (omega arith)

-- ---- a row once tightened

-- what divides the quotients by g, times g, divides the numbers
pub divisible_times : (g d : ℕ) (ts : List (ℕ × ℤ)) → 0 < g → all_divisible g ts ≡ true → all_divisible d (divided g ts) ≡ true → all_divisible (g * d) ts ≡ true
divisible_times g d [] p h k = refl
divisible_times g d (t ∷ ts) p h k =
    let a : (g ∣ unsigned_abs t.1) × (all_divisible g ts ≡ true) = (all_divisible-cons g t ts).0 h in
    let q : ℤ = int_div_euclid t.1 (pos g) in
    let b : (d ∣ unsigned_abs q) × (all_divisible d (divided g ts) ≡ true) = (all_divisible-cons d (t.0, q) (divided g ts)).0 k in
    let e : pos g *ℤ q ≡ t.1 = exact g t.1 p (mod-eq-zero_of_dvd g a.0) in
    let f : g * unsigned_abs q ≡ unsigned_abs t.1 = sym (unsigned_abs-mul (pos g) q) ∙ ap unsigned_abs e in
    (all_divisible-cons (g * d) t ts).1 (subst (λ (n : ℕ). g * d ∣ n) f (mul-dvd-mul_left d g b.0), divisible_times g d ts p a.1 b.1)

pub no_content : content [] ≤ 1
unfolding content
no_content = omega arith

content_empty : (g : ℕ) → content [] ≡ g → 0 < g → ⊥
unfolding content
content_empty g e p = absurd (omega arith)

pub at_most_one : (g d : ℕ) → 0 < g → g * d ≤ g → d ≤ 1
at_most_one g zero p h = omega arith
at_most_one g (suc zero) p h = omega arith
at_most_one g (suc (suc d)) p h = let k : g * 2 ≤ g * suc (suc d) = mul-le-mul_left g (omega arith) in absurd (omega arith)

-- the coefficients divided by their greatest common divisor, where that is not 0, have no other than 1
content_divided : (g : ℕ) (ts : List (ℕ × ℤ)) → 0 < g → content ts ≡ g → content (divided g ts) ≤ 1
content_divided g [] p e = no_content
content_divided g (t ∷ ts) p e =
    let b : content (t ∷ ts) ≤ unsigned_abs t.1 = content_below t ts in
    let n : t.1 ≢ pos 0 = λ (z : t.1 ≡ pos 0). let a : unsigned_abs t.1 ≡ 0 = ap unsigned_abs z in omega arith in
    let h : all_divisible g (t ∷ ts) ≡ true = subst (λ (m : ℕ). all_divisible m (t ∷ ts) ≡ true) e (content_divides_all t ts n) in
    let q : ℤ = int_div_euclid t.1 (pos g) in
    let z : q ≢ pos 0 = exact-nonzero g t.1 p (mod-eq-zero_of_dvd g ((all_divisible-cons g t ts).0 h).0) n in
    let d : ℕ = content ((t.0, q) ∷ divided g ts) in
    let k : all_divisible d ((t.0, q) ∷ divided g ts) ≡ true = content_divides_all (t.0, q) (divided g ts) z in
    let l : g * d ≤ content (t ∷ ts) = content_at_least t ts (g * d) n (divisible_times g d (t ∷ ts) p h k) in
    at_most_one g d p (subst (λ (m : ℕ). g * d ≤ m) e l)

divided_stays : (kind : RowKind) (g : ℕ) (ts : List (ℕ × ℤ)) (b : ℤ) → 0 < g → content ts ≡ g → tightened (divided_row kind g ts b) ≡ divided_row kind g ts b
divided_stays Le g ts b p e = tightened_stays (record { terms = divided g ts; kind = Le; bound = int_div_euclid b (pos g) }) (content_divided g ts p e)
divided_stays Eq g ts b p e = by_test (nat_eq (unsigned_abs b % g) 0)
  where
    by_test : (c : Bool) →
        tightened (if c then (record { terms = divided g ts; kind = Eq; bound = int_div_euclid b (pos g) }) else never) ≡
        (if c then (record { terms = divided g ts; kind = Eq; bound = int_div_euclid b (pos g) }) else never)
    by_test true = tightened_stays (record { terms = divided g ts; kind = Eq; bound = int_div_euclid b (pos g) }) (content_divided g ts p e)
    by_test false = tightened_stays never no_content

tightened_by_stays : (r : LinearRow) (g : ℕ) → content r.terms ≡ g → tightened (tightened_by g r) ≡ tightened_by g r
tightened_by_stays r zero e = tightened_stays r (omega arith)
tightened_by_stays r (suc g) e = divided_stays r.kind (suc g) r.terms r.bound (omega arith) e

-- any row, once tightened, stays as it is
pub tightened_twice : (r : LinearRow) → tightened (tightened r) ≡ tightened r
tightened_twice r = tightened_by_stays r (content r.terms) refl

pub tightened_is_tight : (r : LinearRow) → IsRow r → IsTight (tightened r)
tightened_is_tight r v =
    let w : IsRow (tightened r) = tightened_is_row r v in
    record {
      ascends = w.ascends;
      nonzero = HasNoZero-terms (tightened r).terms w.coefficients;
      stays = tightened_twice r;
    }

pub tightened_are_tight : (rows : List LinearRow) → AllByRecursion IsRow rows → AllByRecursion IsTight (map tightened rows)
tightened_are_tight rows v = all_map IsRow IsTight tightened rows tightened_is_tight v

-- tight rows stay as they are
pub tight_rows_stay : (rows : List LinearRow) → AllByRecursion IsTight rows → map tightened rows ≡ rows
tight_rows_stay [] h = refl
tight_rows_stay (r ∷ rs) h = λ i. h.0.stays i ∷ tight_rows_stay rs h.1 i

-- ---- the rows of a cut

pub at_most_is_tight : (c : ℕ) (k : ℤ) → IsTight (at_most c k)
at_most_is_tight c k = record {
  ascends = (omega arith, tt);
  nonzero = (λ (z : pos 1 ≡ pos 0). omega (arith, ints), tt);
  stays = tightened_stays (at_most c k) (content_below (c, pos 1) []);
}

pub above_is_tight : (c : ℕ) (k : ℤ) → IsTight (above c k)
above_is_tight c k = record {
  ascends = (omega arith, tt);
  nonzero = (λ (z : negsuc 0 ≡ pos 0). omega (arith, ints), tt);
  stays = tightened_stays (above c k) (content_below (c, negsuc 0) []);
}

-- ---- whole points

-- rows hold where the tightened ones do
pub hold_untightened : (point : ℕ → ℤ) (rows : List LinearRow) → AllByRecursion (Holds point) (map tightened rows) → AllByRecursion (Holds point) rows
hold_untightened point [] h = tt
hold_untightened point (r ∷ rs) h = ((holds_tightened_by point r (content r.terms) refl).1 h.0, hold_untightened point rs h.1)

-- and the tightened ones where the rows do
pub hold_tightened : (point : ℕ → ℤ) (rows : List LinearRow) → AllByRecursion (Holds point) rows → AllByRecursion (Holds point) (map tightened rows)
hold_tightened point [] h = tt
hold_tightened point (r ∷ rs) h = ((holds_tightened_by point r (content r.terms) refl).0 h.0, hold_tightened point rs h.1)
