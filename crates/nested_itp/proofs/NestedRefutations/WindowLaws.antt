-- Sums over the rows of a branch whose stamps pass a test.
use Rattle.std.proofs.Common.{◌≡◌, ◌∙◌, ◌⊎◌, inl, inr, ℕ, zero, suc, ◌+◌, ◌<◌, ℤ, pos, ◌+ℤ◌, ◌*ℤ◌, Bool, true, false, cond, List, [], ◌∷◌, ◌++◌, length, refl, sym, ap, arith}
use Rattle.std.specs.Prelude.{nat_eq, nat_lt, slice_index, if◌then◌else◌}
use Rattle.std.specs.List.{AllByRecursion}
use Rattle.std.proofs.lemmas.Int.{ints}
use Rattle.std.proofs.lemmas.Bool.{eq-eqb, ne_eqb}
use Rattle.math_facts.specs.Terms.{coefficient}
use Rattle.math_facts.proofs.Whole.{distrib_right}
use Rattle.lin_rows.specs.Rows.{LinearRow}
use Rattle.lin_rows.specs.Combinations.{row_at, IsPart, combined}
use Rattle.nested_itp.specs.NestedPredicates.Sums.{Branch, parts_upto, sum_upto}
use Rattle.nested_itp.proofs.NestedRefutations.RowsLaws.{AllPairs}

-- a number of a row where the test passes
abbrev pub if_passes : (ℕ → Bool) → ℤ → ℕ → ℤ
if_passes test z s = if test s then z else pos 0

-- of these rows, from number k on, those whose stamps pass, taken as often as the multipliers say
abbrev pub passing : (ℕ → Bool) → (ℕ → ℤ) → (LinearRow → ℤ) → ℕ → List LinearRow → List ℕ → ℤ
passing test times number k [] stamps = pos 0
passing test times number k (r ∷ rs) [] = pos 0
passing test times number k (r ∷ rs) (s ∷ ss) = if_passes test (times k *ℤ number r) s +ℤ passing test times number (suc k) rs ss

pub passing_joined : (test : ℕ → Bool) (times : ℕ → ℤ) (number : LinearRow → ℤ) (k : ℕ) (rs : List LinearRow) (ss : List ℕ) (more : List LinearRow) (late : List ℕ) → length ss ≡ length rs →
    passing test times number k (rs ++ more) (ss ++ late) ≡ passing test times number k rs ss +ℤ passing test times number (k + length rs) more late
passing_joined test times number k [] [] more late e =
    let q : passing test times number k more late ≡ passing test times number (k + 0) more late = ap (λ (n : ℕ). passing test times number n more late) (let p : k ≡ k + 0 = omega arith in p) in
    omega (arith, ints, q)
passing_joined test times number k [] (s ∷ ss) more late e = absurd (omega (arith, e))
passing_joined test times number k (r ∷ rs) [] more late e = absurd (omega (arith, e))
passing_joined test times number k (r ∷ rs) (s ∷ ss) more late e =
    let h : passing test times number (suc k) (rs ++ more) (ss ++ late) ≡ passing test times number (suc k) rs ss +ℤ passing test times number (suc k + length rs) more late =
    passing_joined test times number (suc k) rs ss more late (omega (arith, e)) in
    let q : passing test times number (suc k + length rs) more late ≡ passing test times number (k + suc (length rs)) more late =
    ap (λ (n : ℕ). passing test times number n more late) (let p : suc k + length rs ≡ k + suc (length rs) = omega arith in p) in
    omega (arith, ints, h, q)

-- where no stamp passes the sum is 0
pub none_passes : (test : ℕ → Bool) (times : ℕ → ℤ) (number : LinearRow → ℤ) (k : ℕ) (rs : List LinearRow) (ss : List ℕ) → AllByRecursion (λ s. test s ≡ false) ss → passing test times number k rs ss ≡ pos 0
none_passes test times number k [] ss h = refl
none_passes test times number k (r ∷ rs) [] h = refl
none_passes test times number k (r ∷ rs) (s ∷ ss) h =
    let m : passing test times number (suc k) rs ss ≡ pos 0 = none_passes test times number (suc k) rs ss h.1 in
    let e : if_passes test (times k *ℤ number r) s ≡ pos 0 = ap (λ (z : Bool). if z then times k *ℤ number r else pos 0) h.0 in
    omega (arith, ints, m, e)

-- a stamp that passes one test passes exactly one of the other two, and one that does not passes neither
abbrev pub Splits : (ℕ → Bool) → (ℕ → Bool) → (ℕ → Bool) → ℕ → Type 0
Splits test one other s = ((test s ≡ one s) × (other s ≡ false)) ⊎ ((test s ≡ other s) × (one s ≡ false))

pub passing_split : (test one other : ℕ → Bool) (times : ℕ → ℤ) (number : LinearRow → ℤ) (k : ℕ) (rs : List LinearRow) (ss : List ℕ) → AllByRecursion (Splits test one other) ss →
    passing test times number k rs ss ≡ passing one times number k rs ss +ℤ passing other times number k rs ss
passing_split test one other times number k [] ss h = omega (arith, ints)
passing_split test one other times number k (r ∷ rs) [] h = omega (arith, ints)
passing_split test one other times number k (r ∷ rs) (s ∷ ss) h =
    let m : passing test times number (suc k) rs ss ≡ passing one times number (suc k) rs ss +ℤ passing other times number (suc k) rs ss =
    passing_split test one other times number (suc k) rs ss h.1 in
    let e : if_passes test (times k *ℤ number r) s ≡ if_passes one (times k *ℤ number r) s +ℤ if_passes other (times k *ℤ number r) s = by_either (times k *ℤ number r) h.0 in
    omega (arith, ints, m, e)
  where
    by_either : (z : ℤ) → Splits test one other s → if_passes test z s ≡ if_passes one z s +ℤ if_passes other z s
    by_either z (inl e) =
        let a : if_passes test z s ≡ if_passes one z s = ap (λ (b : Bool). if b then z else pos 0) e.0 in
        let c : if_passes other z s ≡ pos 0 = ap (λ (b : Bool). if b then z else pos 0) e.1 in
        omega (arith, ints, a, c)
    by_either z (inr e) =
        let a : if_passes test z s ≡ if_passes other z s = ap (λ (b : Bool). if b then z else pos 0) e.0 in
        let c : if_passes one z s ≡ pos 0 = ap (λ (b : Bool). if b then z else pos 0) e.1 in
        omega (arith, ints, a, c)

-- rows whose stamps pass and that have the number 0 may be left out
pub none_counts : (test : ℕ → Bool) (times : ℕ → ℤ) (number : LinearRow → ℤ) (k : ℕ) (rs : List LinearRow) (ss : List ℕ) → AllPairs (λ r s. test s ≡ true → number r ≡ pos 0) rs ss →
    passing test times number k rs ss ≡ pos 0
none_counts test times number k [] [] h = refl
none_counts test times number k [] (s ∷ ss) h = refl
none_counts test times number k (r ∷ rs) [] h = refl
none_counts test times number k (r ∷ rs) (s ∷ ss) h =
    let m : passing test times number (suc k) rs ss ≡ pos 0 = none_counts test times number (suc k) rs ss h.1 in
    let e : if_passes test (times k *ℤ number r) s ≡ pos 0 = by_test (test s) refl in
    omega (arith, ints, m, e)
  where
    by_test : (z : Bool) → test s ≡ z → (if z then times k *ℤ number r else pos 0) ≡ pos 0
    by_test false q = refl
    by_test true q = ap (λ (z : ℤ). times k *ℤ z) (h.0 q) ∙ (let p : times k *ℤ pos 0 ≡ pos 0 = omega (arith, ints) in p)

-- ---- sums of parts

-- one row's number, where it is the one
abbrev only : ℕ → ℤ → ℕ → ℤ
only j m k = if nat_eq j k then m else pos 0

passing_none : (test : ℕ → Bool) (number : LinearRow → ℤ) (k : ℕ) (rs : List LinearRow) (ss : List ℕ) → passing test (λ j. pos 0) number k rs ss ≡ pos 0
passing_none test number k [] ss = refl
passing_none test number k (r ∷ rs) [] = refl
passing_none test number k (r ∷ rs) (s ∷ ss) =
    let m : passing test (λ j. pos 0) number (suc k) rs ss ≡ pos 0 = passing_none test number (suc k) rs ss in
    let e : if_passes test (pos 0 *ℤ number r) s ≡ pos 0 = by_test (test s) in
    omega (arith, ints, m, e)
  where
    by_test : (z : Bool) → (if z then pos 0 *ℤ number r else pos 0) ≡ pos 0
    by_test true = omega (arith, ints)
    by_test false = refl

passing_plus : (test : ℕ → Bool) (f g : ℕ → ℤ) (number : LinearRow → ℤ) (k : ℕ) (rs : List LinearRow) (ss : List ℕ) →
    passing test (λ j. f j +ℤ g j) number k rs ss ≡ passing test f number k rs ss +ℤ passing test g number k rs ss
passing_plus test f g number k [] ss = omega (arith, ints)
passing_plus test f g number k (r ∷ rs) [] = omega (arith, ints)
passing_plus test f g number k (r ∷ rs) (s ∷ ss) =
    let m : passing test (λ j. f j +ℤ g j) number (suc k) rs ss ≡ passing test f number (suc k) rs ss +ℤ passing test g number (suc k) rs ss = passing_plus test f g number (suc k) rs ss in
    let e : if_passes test ((f k +ℤ g k) *ℤ number r) s ≡ if_passes test (f k *ℤ number r) s +ℤ if_passes test (g k *ℤ number r) s = by_test (test s) in
    omega (arith, ints, m, e)
  where
    by_test : (z : Bool) → (if z then (f k +ℤ g k) *ℤ number r else pos 0) ≡ (if z then f k *ℤ number r else pos 0) +ℤ (if z then g k *ℤ number r else pos 0)
    by_test true = distrib_right (f k) (g k) (number r)
    by_test false = refl

later_only : (test : ℕ → Bool) (number : LinearRow → ℤ) (j : ℕ) (m : ℤ) (k : ℕ) (rs : List LinearRow) (ss : List ℕ) → j < k → passing test (only j m) number k rs ss ≡ pos 0
later_only test number j m k [] ss l = refl
later_only test number j m k (r ∷ rs) [] l = refl
later_only test number j m k (r ∷ rs) (s ∷ ss) l =
    let h : passing test (only j m) number (suc k) rs ss ≡ pos 0 = later_only test number j m (suc k) rs ss (omega (arith, l)) in
    let o : only j m k ≡ pos 0 = ap (λ (z : Bool). if z then m else pos 0) (ne_eqb j k (λ (e : j ≡ k). omega (arith, e, l))) in
    let e : if_passes test (only j m k *ℤ number r) s ≡ pos 0 = ap (λ (z : ℤ). if_passes test (z *ℤ number r) s) o ∙ by_test (test s) in
    omega (arith, ints, h, e)
  where
    by_test : (z : Bool) → (if z then pos 0 *ℤ number r else pos 0) ≡ pos 0
    by_test true = omega (arith, ints)
    by_test false = refl

-- of the row of that number alone
passing_only : (test : ℕ → Bool) (number : LinearRow → ℤ) (m : ℤ) (k : ℕ) (rs : List LinearRow) (ss : List ℕ) (p : ℕ) → p < length rs → length ss ≡ length rs →
    passing test (only (k + p) m) number k rs ss ≡ if_passes test (m *ℤ number (row_at rs p)) (slice_index ss p)
passing_only test number m k [] ss p l e = absurd (omega (arith, l))
passing_only test number m k (r ∷ rs) [] p l e = absurd (omega (arith, e))
passing_only test number m k (r ∷ rs) (s ∷ ss) zero l e =
    let h : passing test (only (k + 0) m) number (suc k) rs ss ≡ pos 0 = later_only test number (k + 0) m (suc k) rs ss (omega arith) in
    let o : only (k + 0) m k ≡ m = ap (λ (z : Bool). if z then m else pos 0) (eq-eqb (k + 0) k (omega arith)) in
    let w : if_passes test (only (k + 0) m k *ℤ number r) s ≡ if_passes test (m *ℤ number r) s = ap (λ (z : ℤ). if_passes test (z *ℤ number r) s) o in
    omega (arith, ints, h, w)
passing_only test number m k (r ∷ rs) (s ∷ ss) (suc p) l e =
    let j : k + suc p ≡ suc k + p = omega arith in
    let h : passing test (only (suc k + p) m) number (suc k) rs ss ≡ if_passes test (m *ℤ number (row_at rs p)) (slice_index ss p) = passing_only test number m (suc k) rs ss p (omega (arith, l)) (omega (arith, e)) in
    let q : passing test (only (k + suc p) m) number (suc k) rs ss ≡ passing test (only (suc k + p) m) number (suc k) rs ss = ap (λ (n : ℕ). passing test (only n m) number (suc k) rs ss) j in
    let o : only (k + suc p) m k ≡ pos 0 = ap (λ (z : Bool). if z then m else pos 0) (ne_eqb (k + suc p) k (λ (z : k + suc p ≡ k). omega (arith, z))) in
    let w : if_passes test (only (k + suc p) m k *ℤ number r) s ≡ pos 0 = ap (λ (z : ℤ). if_passes test (z *ℤ number r) s) o ∙ by_test (test s) in
    omega (arith, ints, h, q, w)
  where
    by_test : (z : Bool) → (if z then pos 0 *ℤ number r else pos 0) ≡ pos 0
    by_test true = omega (arith, ints)
    by_test false = refl

-- the parts whose rows' stamps pass
abbrev pub parts_where : (ℕ → Bool) → List ℕ → List (ℕ × ℤ) → List (ℕ × ℤ)
parts_where test stamps [] = []
parts_where test stamps (t ∷ ts) = cond (test (slice_index stamps t.0)) (t ∷ parts_where test stamps ts) (parts_where test stamps ts)

-- parts add up to the rows that pass, each taken as often as its coefficient in the parts
pub parts_pass : (test : ℕ → Bool) (number : LinearRow → ℤ) (rs : List LinearRow) (ss : List ℕ) → length ss ≡ length rs → (parts : List (ℕ × ℤ)) → AllByRecursion (IsPart rs) parts →
    combined number rs (parts_where test ss parts) ≡ passing test (λ k. coefficient k parts) number 0 rs ss
parts_pass test number rs ss e [] h = sym (passing_none test number 0 rs ss)
parts_pass test number rs ss e (t ∷ parts) h =
    let m : combined number rs (parts_where test ss parts) ≡ passing test (λ k. coefficient k parts) number 0 rs ss = parts_pass test number rs ss e parts h.1 in
    let p : passing test (λ k. only t.0 t.1 k +ℤ coefficient k parts) number 0 rs ss ≡ passing test (only t.0 t.1) number 0 rs ss +ℤ passing test (λ k. coefficient k parts) number 0 rs ss =
    passing_plus test (only t.0 t.1) (λ k. coefficient k parts) number 0 rs ss in
    let o : passing test (only t.0 t.1) number 0 rs ss ≡ if_passes test (t.1 *ℤ number (row_at rs t.0)) (slice_index ss t.0) =
    ap (λ (n : ℕ). passing test (only n t.1) number 0 rs ss) (let q : t.0 ≡ 0 + t.0 = omega arith in q) ∙ passing_only test number t.1 0 rs ss t.0 h.0.exists e in
    by_test (test (slice_index ss t.0)) m p o
  where
    by_test : (z : Bool) → combined number rs (parts_where test ss parts) ≡ passing test (λ k. coefficient k parts) number 0 rs ss →
        passing test (λ k. only t.0 t.1 k +ℤ coefficient k parts) number 0 rs ss ≡ passing test (only t.0 t.1) number 0 rs ss +ℤ passing test (λ k. coefficient k parts) number 0 rs ss →
        passing test (only t.0 t.1) number 0 rs ss ≡ (if z then t.1 *ℤ number (row_at rs t.0) else pos 0) →
        combined number rs (cond z (t ∷ parts_where test ss parts) (parts_where test ss parts)) ≡ passing test (λ k. only t.0 t.1 k +ℤ coefficient k parts) number 0 rs ss
    by_test true m p o = omega (arith, ints, m, p, o)
    by_test false m p o = omega (arith, ints, m, p, o)

-- ---- running sums

abbrev pub is_upto : ℕ → ℕ → Bool
is_upto s stamp = nat_lt stamp (suc s)

parts_upto_where : (ss : List ℕ) (s : ℕ) (parts : List (ℕ × ℤ)) → parts_upto ss s parts ≡ parts_where (is_upto s) ss parts
parts_upto_where ss s [] = refl
parts_upto_where ss s (t ∷ parts) = by_test (is_upto s (slice_index ss t.0)) (parts_upto_where ss s parts)
  where
    by_test : (z : Bool) → parts_upto ss s parts ≡ parts_where (is_upto s) ss parts → cond z (t ∷ parts_upto ss s parts) (parts_upto ss s parts) ≡ cond z (t ∷ parts_where (is_upto s) ss parts) (parts_where (is_upto s) ss parts)
    by_test true h = ap (λ (l : List (ℕ × ℤ)). t ∷ l) h
    by_test false h = h

-- a sum up to a stamp
pub sum_passes : (b : Branch) (parts : List (ℕ × ℤ)) (number : LinearRow → ℤ) (s : ℕ) → length b.stamps ≡ length b.rows → AllByRecursion (IsPart b.rows) parts →
    sum_upto b parts number s ≡ passing (is_upto s) (λ k. coefficient k parts) number 0 b.rows b.stamps
sum_passes b parts number s e h = ap (combined number b.rows) (parts_upto_where b.stamps s parts) ∙ parts_pass (is_upto s) number b.rows b.stamps e parts h
