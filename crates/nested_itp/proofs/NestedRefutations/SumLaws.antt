-- Sums of rows taken with multipliers, and the parts of a leaf.
use Rattle.std.proofs.Common.{◌≡◌, ◌≢◌, ◌∙◌, ◌⊎◌, inl, inr, ℕ, suc, ◌+◌, ◌<◌, ℤ, pos, negsuc, ◌+ℤ◌, ◌*ℤ◌, ◌<ℤ◌, Bool, true, false, List, [], ◌∷◌, ◌++◌, length, refl, sym, ap, subst, arith, length-append, append_assoc}
use Rattle.std.specs.Prelude.{if◌then◌else◌}
use Rattle.std.specs.List.{AllByRecursion}
use Rattle.std.proofs.lemmas.Int.{ints}
use Rattle.std.proofs.lemmas.Bool.{eqb-true, eqb-false}
use Rattle.math_facts.specs.Terms.{coefficient}
use Rattle.lin_rows.specs.Rows.{LinearRow, AscendsFrom}
use Rattle.lin_rows.specs.Sums.{is_zero}
use Rattle.lin_rows.specs.Combinations.{row_at, Multiplies, IsPart, combined, Contradicts}
use Rattle.lin_rows.proofs.Ascending.{AscendsFrom_less}
use Rattle.nested_itp.specs.NestedPredicates.Sums.{terms_from}
use Rattle.nested_itp.specs.NestedRefutations.Numbers.{LeafNumbersFit}
use Rattle.nested_itp.proofs.NestedRefutations.RowsLaws.{AllPairs}

-- of each row a number, taken with the row's multiplier
abbrev pub weighed : (LinearRow → ℤ) → List ℤ → List LinearRow → ℤ
weighed number [] rows = pos 0
weighed number (m ∷ ms) [] = pos 0
weighed number (m ∷ ms) (r ∷ rs) = (m *ℤ number r) +ℤ weighed number ms rs

row_behind : (front rest : List LinearRow) (r : LinearRow) → row_at (front ++ r ∷ rest) (length front) ≡ r
row_behind [] rest r = refl
row_behind (x ∷ front) rest r = row_behind front rest r

zero_times : (m z : ℤ) → is_zero m ≡ true → m *ℤ z ≡ pos 0
zero_times (pos n) z e = let f : n ≡ 0 = eqb-true n 0 e in ap (λ (k : ℕ). pos k *ℤ z) f ∙ nothing z
  where
    nothing : (z : ℤ) → pos 0 *ℤ z ≡ pos 0
    nothing z = omega (arith, ints)
zero_times (negsuc n) z e = absurd (cc)

-- the parts with these multipliers add up to the same
pub parts_sum : (number : LinearRow → ℤ) (front : List LinearRow) (k : ℕ) (ms : List ℤ) (rows : List LinearRow) → length front ≡ k → length ms ≡ length rows →
    combined number (front ++ rows) (terms_from k ms) ≡ weighed number ms rows
parts_sum number front k [] rows e l = refl
parts_sum number front k (m ∷ ms) [] e l = absurd (omega (arith, l))
parts_sum number front k (m ∷ ms) (r ∷ rows) e l =
    let n : length (front ++ r ∷ []) ≡ suc k = length-append front (r ∷ []) ∙ (let q : length front + length (r ∷ []) ≡ suc k = omega (arith, e) in q) in
    let rest : combined number ((front ++ r ∷ []) ++ rows) (terms_from (suc k) ms) ≡ weighed number ms rows = parts_sum number (front ++ r ∷ []) (suc k) ms rows n (omega (arith, l)) in
    let same : (front ++ r ∷ []) ++ rows ≡ front ++ r ∷ rows = append_assoc front (r ∷ []) rows in
    let more : combined number (front ++ r ∷ rows) (terms_from (suc k) ms) ≡ weighed number ms rows =
    ap (λ (l : List LinearRow). combined number l (terms_from (suc k) ms)) (sym same) ∙ rest in
    let found : row_at (front ++ r ∷ rows) k ≡ r = ap (row_at (front ++ r ∷ rows)) (sym e) ∙ row_behind front rows r in
    by_test (is_zero m) refl more found
  where
    by_test : (z : Bool) → is_zero m ≡ z → combined number (front ++ r ∷ rows) (terms_from (suc k) ms) ≡ weighed number ms rows → row_at (front ++ r ∷ rows) k ≡ r →
        combined number (front ++ r ∷ rows) (if z then terms_from (suc k) ms else (k, m) ∷ terms_from (suc k) ms) ≡ (m *ℤ number r) +ℤ weighed number ms rows
    by_test true q h f = let o : m *ℤ number r ≡ pos 0 = zero_times m (number r) q in omega (arith, ints)
    by_test false q h f = let o : m *ℤ number (row_at (front ++ r ∷ rows) k) ≡ m *ℤ number r = ap (λ (x : LinearRow). m *ℤ number x) f in omega (arith, ints)

pub parts_ascend : (k : ℕ) (ms : List ℤ) → AscendsFrom k (terms_from k ms)
parts_ascend k [] = tt
parts_ascend k (m ∷ ms) = by_test (is_zero m) (subst (λ (n : ℕ). AscendsFrom n (terms_from (suc k) ms)) (let e : suc k ≡ k + 1 = omega arith in e) (parts_ascend (suc k) ms))
  where
    by_test : (z : Bool) → AscendsFrom (k + 1) (terms_from (suc k) ms) → AscendsFrom k (if z then terms_from (suc k) ms else (k, m) ∷ terms_from (suc k) ms)
    by_test true h = AscendsFrom_less k (k + 1) (terms_from (suc k) ms) (omega arith) h
    by_test false h = (omega arith, h)

-- a row may be taken so often: not at all, or as its kind allows
abbrev pub MayTake : ℤ → LinearRow → Type 0
MayTake m r = (m ≡ pos 0) ⊎ Multiplies m r.kind

pub parts_are : (front : List LinearRow) (k : ℕ) (ms : List ℤ) (rows : List LinearRow) → length front ≡ k → AllPairs MayTake ms rows →
    AllByRecursion (IsPart (front ++ rows)) (terms_from k ms)
parts_are front k [] [] e h = tt
parts_are front k [] (r ∷ rows) e h = absurd h
parts_are front k (m ∷ ms) [] e h = absurd h
parts_are front k (m ∷ ms) (r ∷ rows) e h =
    let n : length (front ++ r ∷ []) ≡ suc k = length-append front (r ∷ []) ∙ (let q : length front + length (r ∷ []) ≡ suc k = omega (arith, e) in q) in
    let same : (front ++ r ∷ []) ++ rows ≡ front ++ r ∷ rows = append_assoc front (r ∷ []) rows in
    let more : AllByRecursion (IsPart (front ++ r ∷ rows)) (terms_from (suc k) ms) =
    subst (λ (l : List LinearRow). AllByRecursion (IsPart l) (terms_from (suc k) ms)) same (parts_are (front ++ r ∷ []) (suc k) ms rows n h.1) in
    let found : row_at (front ++ r ∷ rows) k ≡ r = ap (row_at (front ++ r ∷ rows)) (sym e) ∙ row_behind front rows r in
    let long : length (front ++ r ∷ rows) ≡ length front + length (r ∷ rows) = length-append front (r ∷ rows) in
    by_test (is_zero m) refl more found (omega (arith, e, long)) h.0
  where
    taken : m ≢ pos 0 → MayTake m r → Multiplies m r.kind
    taken n (inl e) = absurd (n e)
    taken n (inr h) = h

    not_zero : (z : ℤ) → is_zero z ≡ false → z ≢ pos 0
    not_zero (pos n) e q = eqb-false n 0 e (omega (arith, ints, q))
    not_zero (negsuc n) e q = absurd (omega (arith, ints, q))

    by_test : (z : Bool) → is_zero m ≡ z → AllByRecursion (IsPart (front ++ r ∷ rows)) (terms_from (suc k) ms) → row_at (front ++ r ∷ rows) k ≡ r → k < length (front ++ r ∷ rows) → MayTake m r →
        AllByRecursion (IsPart (front ++ r ∷ rows)) (if z then terms_from (suc k) ms else (k, m) ∷ terms_from (suc k) ms)
    by_test true q h f l t = h
    by_test false q h f l t =
        (record { exists = l; multiplies = subst (λ (x : LinearRow). Multiplies m x.kind) (sym f) (taken (not_zero m q) t) }, h)

-- multipliers with which the rows come to a contradiction
pub record AreContradicted (ms : List ℤ) (rows : List LinearRow) : Type 0 where
  pub may_take : AllPairs MayTake ms rows
  pub as_many : length ms ≡ length rows
  pub columns : (c : ℕ) → weighed (λ r. coefficient c r.terms) ms rows ≡ pos 0
  pub bound : weighed (λ r. r.bound) ms rows <ℤ pos 0

-- where its numbers fit, a leaf with such multipliers contradicts its rows
pub leaf_contradicts : (ms : List ℤ) (rows : List LinearRow) → AreContradicted ms rows → LeafNumbersFit (record { rows = rows; parts = terms_from 0 ms }) → Contradicts rows (terms_from 0 ms)
leaf_contradicts ms rows h fits =
    let b : combined (λ r. r.bound) rows (terms_from 0 ms) ≡ weighed (λ r. r.bound) ms rows = parts_sum (λ r. r.bound) [] 0 ms rows refl h.as_many in
    let n = h.bound in
    record {
      ascends = parts_ascend 0 ms;
      each = parts_are [] 0 ms rows refl h.may_take;
      multipliers_fit = fits.multipliers;
      columns_fit = fits.columns;
      bound_fits = fits.bound;
      columns_vanish = λ c. parts_sum (λ r. coefficient c r.terms) [] 0 ms rows refl h.as_many ∙ h.columns c;
      bound_negative = omega (arith, ints, b, n);
    }
