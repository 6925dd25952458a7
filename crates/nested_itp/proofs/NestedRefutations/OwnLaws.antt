-- The rows of a branch that a triple's refutation adds: those of its letter, and those of own cuts.
use Rattle.std.proofs.Common.{◌≡◌, ◌∙◌, ◌⊎◌, inl, inr, ℕ, suc, ◌+◌, ◌<◌, ◌≤◌, ℤ, pos, neg_ℤ, ◌+ℤ◌, ◌*ℤ◌, Bool, true, false, List, [], ◌∷◌, ◌++◌, length, refl, sym, ap, arith, length-append}
use Rattle.std.specs.Prelude.{◌&&◌, nat_eq, nat_lt, if◌then◌else◌}
use Rattle.std.specs.List.{AllByRecursion}
use Rattle.std.proofs.lemmas.Int.{ints}
use Rattle.std.proofs.lemmas.Bool.{eq-eqb, ne_eqb, cases_eq, lt-ltb, le-ltb, ltb-true, ltb-false}
use Rattle.math_facts.specs.Terms.{coefficient}
use Rattle.lin_rows.specs.Rows.{LinearRow}
use Rattle.lin_rows.specs.Combinations.{IsPart}
use Rattle.farkas_check.specs.Refutes.{at_most, above}
use Rattle.nested_itp.specs.NestedPredicates.Stamps.{column_stamp}
use Rattle.nested_itp.specs.NestedPredicates.Sums.{Branch, sum_upto}
use Rattle.nested_itp.specs.NestedRefutations.Refutations.{side_of, Role, branch_row, View}
use Rattle.nested_itp.proofs.NestedRefutations.RowsLaws.{AllPairs}
use Rattle.nested_itp.proofs.NestedRefutations.WayLaws.{is_own, recolumned, own_one, own_sum}
use Rattle.nested_itp.proofs.NestedRefutations.WindowLaws.{if_passes, passing, passing_joined, none_passes, Splits, passing_split, none_counts, is_upto, sum_passes}

-- ---- own cuts

-- a row of a cut at a column of the word, with its stamp
pub record IsCutAt (columns : List ℕ) (row : LinearRow) (stamp : ℕ) : Type 0 where
  pub column : ℕ
  pub below : column < length columns
  pub bound : ℤ
  pub side : Bool
  pub row_is : row ≡ side_of side (at_most column bound) (above column bound)
  pub stamp_is : stamp ≡ column_stamp columns column

-- a column of the system and one of the word: own cuts at the one are cuts at the other
abbrev pub IsColumnOf : View → ℕ → ℕ → Type 0
IsColumnOf v x y = (col : ℕ) → col < length v.columns → is_own v (column_stamp v.columns col) ≡ true → (col ≡ y → v.column col ≡ x) × (v.column col ≡ x → col ≡ y)

term_at : (x c : ℕ) (a : ℤ) → coefficient x ((c, a) ∷ []) ≡ (if nat_eq c x then a else pos 0)
term_at x c a = by_test (nat_eq c x)
  where
    by_test : (z : Bool) → (if z then a else pos 0) +ℤ pos 0 ≡ (if z then a else pos 0)
    by_test true = omega (arith, ints)
    by_test false = refl

same_place : (a b c d : ℕ) → (a ≡ b → c ≡ d) → (c ≡ d → a ≡ b) → nat_eq a b ≡ nat_eq c d
same_place a b c d f g = by_cases (cases_eq a b)
  where
    by_cases : (a ≡ b) ⊎ (a ≡ b → ⊥) → nat_eq a b ≡ nat_eq c d
    by_cases (inl e) = eq-eqb a b e ∙ sym (eq-eqb c d (f e))
    by_cases (inr n) = ne_eqb a b n ∙ sym (ne_eqb c d (λ (q : c ≡ d). n (g q)))

cut_coefficient : (v : View) (x y col : ℕ) (k : ℤ) → (col ≡ y → v.column col ≡ x) → (v.column col ≡ x → col ≡ y) → (side : Bool) →
    coefficient x (recolumned v.column (side_of side (at_most col k) (above col k))).terms ≡ coefficient y (side_of side (at_most col k) (above col k)).terms
cut_coefficient v x y col k f g false =
    term_at x (v.column col) (pos 1) ∙ ap (λ (z : Bool). if z then pos 1 else pos 0) (sym (same_place col y (v.column col) x f g)) ∙ sym (term_at y col (pos 1))
cut_coefficient v x y col k f g true =
    term_at x (v.column col) (neg_ℤ (pos 1)) ∙ ap (λ (z : Bool). if z then neg_ℤ (pos 1) else pos 0) (sym (same_place col y (v.column col) x f g)) ∙ sym (term_at y col (neg_ℤ (pos 1)))

one_same : (v : View) (val : Role → ℤ) (x y : ℕ) → IsColumnOf v x y → (k : ℕ) (r : LinearRow) (s : ℕ) → IsCutAt v.columns r s →
    own_one v val (λ row. coefficient x row.terms) k r s ≡ if_passes (is_own v) (val (branch_row k) *ℤ coefficient y r.terms) s
one_same v val x y of k r s cut = by_test (is_own v s) refl
  where
    by_test : (z : Bool) → is_own v s ≡ z → (if z then val (branch_row k) *ℤ coefficient x (recolumned v.column r).terms else pos 0) ≡ (if z then val (branch_row k) *ℤ coefficient y r.terms else pos 0)
    by_test false q = refl
    by_test true q =
        let o : is_own v (column_stamp v.columns cut.column) ≡ true = ap (is_own v) (sym cut.stamp_is) ∙ q in
        let both = of cut.column cut.below o in
        ap (λ (z : ℤ). val (branch_row k) *ℤ z)
        (ap (λ (row : LinearRow). coefficient x (recolumned v.column row).terms) cut.row_is ∙ cut_coefficient v x y cut.column cut.bound both.0 both.1 cut.side ∙
        sym (ap (λ (row : LinearRow). coefficient y row.terms) cut.row_is))

pub cuts_same : (v : View) (val : Role → ℤ) (x y : ℕ) → IsColumnOf v x y → (k : ℕ) (rs : List LinearRow) (ss : List ℕ) → AllPairs (IsCutAt v.columns) rs ss →
    own_sum v val (λ row. coefficient x row.terms) k rs ss ≡ passing (is_own v) (λ j. val (branch_row j)) (λ row. coefficient y row.terms) k rs ss
cuts_same v val x y of k [] [] h = refl
cuts_same v val x y of k [] (s ∷ ss) h = absurd h
cuts_same v val x y of k (r ∷ rs) [] h = absurd h
cuts_same v val x y of k (r ∷ rs) (s ∷ ss) h =
    let m : own_sum v val (λ row. coefficient x row.terms) (suc k) rs ss ≡ passing (is_own v) (λ j. val (branch_row j)) (λ row. coefficient y row.terms) (suc k) rs ss =
    cuts_same v val x y of (suc k) rs ss h.1 in
    let e : own_one v val (λ row. coefficient x row.terms) k r s ≡ if_passes (is_own v) (val (branch_row k) *ℤ coefficient y r.terms) s = one_same v val x y of k r s h.0 in
    omega (arith, ints, m, e)

-- a column that no own cut is at
pub no_cuts : (v : View) (val : Role → ℤ) (x : ℕ) → ((col : ℕ) → col < length v.columns → is_own v (column_stamp v.columns col) ≡ true → v.column col ≡ x → ⊥) → (k : ℕ) (rs : List LinearRow) (ss : List ℕ) → AllPairs (IsCutAt v.columns) rs ss →
    own_sum v val (λ row. coefficient x row.terms) k rs ss ≡ pos 0
no_cuts v val x off k [] [] h = refl
no_cuts v val x off k [] (s ∷ ss) h = absurd h
no_cuts v val x off k (r ∷ rs) [] h = absurd h
no_cuts v val x off k (r ∷ rs) (s ∷ ss) h =
    let m : own_sum v val (λ row. coefficient x row.terms) (suc k) rs ss ≡ pos 0 = no_cuts v val x off (suc k) rs ss h.1 in
    let e : own_one v val (λ row. coefficient x row.terms) k r s ≡ pos 0 = by_test (is_own v s) refl in
    omega (arith, ints, m, e)
  where
    off_cut : (side : Bool) → is_own v (column_stamp v.columns h.0.column) ≡ true → coefficient x (recolumned v.column (side_of side (at_most h.0.column h.0.bound) (above h.0.column h.0.bound))).terms ≡ pos 0
    off_cut false q = term_at x (v.column h.0.column) (pos 1) ∙ rw (ne_eqb (v.column h.0.column) x (off h.0.column h.0.below q)) refl
    off_cut true q = term_at x (v.column h.0.column) (neg_ℤ (pos 1)) ∙ rw (ne_eqb (v.column h.0.column) x (off h.0.column h.0.below q)) refl

    by_test : (z : Bool) → is_own v s ≡ z → (if z then val (branch_row k) *ℤ coefficient x (recolumned v.column r).terms else pos 0) ≡ pos 0
    by_test false q = refl
    by_test true q =
        ap (λ (z : ℤ). val (branch_row k) *ℤ z) (ap (λ (row : LinearRow). coefficient x (recolumned v.column row).terms) h.0.row_is ∙ off_cut h.0.side (ap (is_own v) (sym h.0.stamp_is) ∙ q)) ∙
        (let p : val (branch_row k) *ℤ pos 0 ≡ pos 0 = omega (arith, ints) in p)

pub cut_bounds : (v : View) (val : Role → ℤ) (k : ℕ) (rs : List LinearRow) (ss : List ℕ) →
    own_sum v val (λ row. row.bound) k rs ss ≡ passing (is_own v) (λ j. val (branch_row j)) (λ row. row.bound) k rs ss
cut_bounds v val k [] ss = refl
cut_bounds v val k (r ∷ rs) [] = refl
cut_bounds v val k (r ∷ rs) (s ∷ ss) =
    let m : own_sum v val (λ row. row.bound) (suc k) rs ss ≡ passing (is_own v) (λ j. val (branch_row j)) (λ row. row.bound) (suc k) rs ss = cut_bounds v val (suc k) rs ss in
    omega (arith, ints, m)

-- ---- the rows of a branch in three parts

-- those before the letter, those of the letter, and later ones, of which none is own; and then those of the cuts
pub record Parted (v : View) (root b : Branch) (front block : List LinearRow) (early now : List ℕ) (more : List LinearRow) (late : List ℕ) : Type 0 where
  pub rest : List LinearRow
  pub after : List ℕ
  pub rows : root.rows ≡ front ++ (block ++ rest)
  pub stamps : root.stamps ≡ early ++ (now ++ after)
  pub early_count : length early ≡ length front
  pub now_count : length now ≡ length block
  pub after_count : length after ≡ length rest
  pub not_own : AllByRecursion (λ s. is_own v s ≡ false) after
  pub branch_rows : b.rows ≡ root.rows ++ more
  pub branch_stamps : b.stamps ≡ root.stamps ++ late

pub own_parts : (v : View) (root b : Branch) (front block : List LinearRow) (early now : List ℕ) (more : List LinearRow) (late : List ℕ) → Parted v root b front block early now more late →
    (times : ℕ → ℤ) (number : LinearRow → ℤ) → passing (is_own v) times number 0 b.rows b.stamps ≡
    (passing (is_own v) times number 0 front early +ℤ passing (is_own v) times number (length front) block now) +ℤ passing (is_own v) times number (length root.rows) more late
own_parts v root b front block early now more late h times number =
    let test : ℕ → Bool = is_own v in
    let stamps_count : length root.stamps ≡ length root.rows =
    ap (λ (l : List ℕ). length l) h.stamps ∙ counted early now h.after ∙
    (let a = h.early_count in let c = h.now_count in let d = h.after_count in
    let q : length early + (length now + length h.after) ≡ length front + (length block + length h.rest) = omega (arith, a, c, d) in q) ∙
    sym (ap (λ (l : List LinearRow). length l) h.rows ∙ counted front block h.rest) in
    let whole : passing test times number 0 b.rows b.stamps ≡ passing test times number 0 (root.rows ++ more) (root.stamps ++ late) =
    ap (λ (l : List LinearRow). passing test times number 0 l b.stamps) h.branch_rows ∙ ap (passing test times number 0 (root.rows ++ more)) h.branch_stamps in
    let one = passing_joined test times number 0 root.rows root.stamps more late stamps_count in
    let at_cuts : passing test times number (0 + length root.rows) more late ≡ passing test times number (length root.rows) more late =
    ap (λ (n : ℕ). passing test times number n more late) (let q : 0 + length root.rows ≡ length root.rows = omega arith in q) in
    let rooted : passing test times number 0 root.rows root.stamps ≡ passing test times number 0 (front ++ (block ++ h.rest)) (early ++ (now ++ h.after)) =
    ap (λ (l : List LinearRow). passing test times number 0 l root.stamps) h.rows ∙ ap (passing test times number 0 (front ++ (block ++ h.rest))) h.stamps in
    let two = passing_joined test times number 0 front early (block ++ h.rest) (now ++ h.after) h.early_count in
    let at_block : passing test times number (0 + length front) (block ++ h.rest) (now ++ h.after) ≡ passing test times number (length front) (block ++ h.rest) (now ++ h.after) =
    ap (λ (n : ℕ). passing test times number n (block ++ h.rest) (now ++ h.after)) (let q : 0 + length front ≡ length front = omega arith in q) in
    let three = passing_joined test times number (length front) block now h.rest h.after h.now_count in
    let none = none_passes test times number (length front + length block) h.rest h.after h.not_own in
    omega (arith, ints, whole, one, at_cuts, rooted, two, at_block, three, none)
  where
    counted : {X : Type 0} (xs ys zs : List X) → length (xs ++ (ys ++ zs)) ≡ length xs + (length ys + length zs)
    counted xs ys zs = length-append xs (ys ++ zs) ∙ ap (λ (n : ℕ). length xs + n) (length-append ys zs)

-- ---- windows of stamps

-- where the stamps above one and up to another are those of own cuts, the difference of the running sums is what is own
pub window_sum : (v : View) (b : Branch) (parts : List (ℕ × ℤ)) (number : LinearRow → ℤ) (low high : ℕ) → low ≤ high → length b.stamps ≡ length b.rows → AllByRecursion (IsPart b.rows) parts →
    AllByRecursion (λ s. (s < suc low → is_own v s ≡ false) × (low < s → s < suc high → is_own v s ≡ true) × (high < s → is_own v s ≡ false)) b.stamps →
    sum_upto b parts number high ≡ sum_upto b parts number low +ℤ passing (is_own v) (λ k. coefficient k parts) number 0 b.rows b.stamps
window_sum v b parts number low high l e each own =
    let a = sum_passes b parts number high e each in
    let c = sum_passes b parts number low e each in
    let d = passing_split (is_upto high) (is_upto low) (is_own v) (λ k. coefficient k parts) number 0 b.rows b.stamps (all_split b.stamps own) in
    omega (arith, ints, a, c, d)
  where
    by_low : (s : ℕ) → (s < suc low → is_own v s ≡ false) × (low < s → s < suc high → is_own v s ≡ true) × (high < s → is_own v s ≡ false) → (z : Bool) → nat_lt s (suc low) ≡ z → (y : Bool) → nat_lt s (suc high) ≡ y →
        Splits (is_upto high) (is_upto low) (is_own v) s
    by_low s h true p y q =
        let m : s < suc low = ltb-true s (suc low) p in
        inl (lt-ltb s (suc high) (omega (arith, m, l)) ∙ sym p, h.0 m)
    by_low s h false p true q =
        let m : suc low ≤ s = ltb-false s (suc low) p in
        let k : s < suc high = ltb-true s (suc high) q in
        inr (q ∙ sym (h.1 (omega (arith, m)) k), p)
    by_low s h false p false q =
        let k : suc high ≤ s = ltb-false s (suc high) q in
        inr (q ∙ sym (h.2 (omega (arith, k))), p)

    all_split : (ss : List ℕ) → AllByRecursion (λ s. (s < suc low → is_own v s ≡ false) × (low < s → s < suc high → is_own v s ≡ true) × (high < s → is_own v s ≡ false)) ss →
        AllByRecursion (Splits (is_upto high) (is_upto low) (is_own v)) ss
    all_split [] h = tt
    all_split (s ∷ ss) h = (by_low s h.0 (nat_lt s (suc low)) refl (nat_lt s (suc high)) refl, all_split ss h.1)

-- above one stamp and up to another
abbrev pub between : ℕ → ℕ → ℕ → Bool
between low high s = nat_lt low s && nat_lt s (suc high)

and_is : (x y : Bool) → (x && y) ≡ true → (x ≡ true) × (y ≡ true)
and_is true true e = (refl, refl)
and_is true false e = absurd (cc)
and_is false y e = absurd (cc)

-- rows between two stamps that do not name a version do not change its sum
pub sum_stays : (b : Branch) (parts : List (ℕ × ℤ)) (number : LinearRow → ℤ) (low high : ℕ) → low ≤ high → length b.stamps ≡ length b.rows → AllByRecursion (IsPart b.rows) parts →
    AllPairs (λ r s. low < s → s < suc high → number r ≡ pos 0) b.rows b.stamps → sum_upto b parts number high ≡ sum_upto b parts number low
sum_stays b parts number low high l e each none =
    let a = sum_passes b parts number high e each in
    let c = sum_passes b parts number low e each in
    let d = passing_split (is_upto high) (is_upto low) (between low high) (λ k. coefficient k parts) number 0 b.rows b.stamps (all_split b.stamps) in
    let z = none_counts (between low high) (λ k. coefficient k parts) number 0 b.rows b.stamps (all_none b.rows b.stamps none) in
    omega (arith, ints, a, c, d, z)
  where
    by_low : (s : ℕ) → (z : Bool) → nat_lt s (suc low) ≡ z → Splits (is_upto high) (is_upto low) (between low high) s
    by_low s true p =
        let m : s < suc low = ltb-true s (suc low) p in
        inl (lt-ltb s (suc high) (omega (arith, m, l)) ∙ sym p, rw (le-ltb low s (omega (arith, m))) refl)
    by_low s false p =
        let m : suc low ≤ s = ltb-false s (suc low) p in
        inr (rw (lt-ltb low s (omega (arith, m))) refl, p)

    all_split : (ss : List ℕ) → AllByRecursion (Splits (is_upto high) (is_upto low) (between low high)) ss
    all_split [] = tt
    all_split (s ∷ ss) = (by_low s (nat_lt s (suc low)) refl, all_split ss)

    all_none : (rs : List LinearRow) (ss : List ℕ) → AllPairs (λ r s. low < s → s < suc high → number r ≡ pos 0) rs ss → AllPairs (λ r s. between low high s ≡ true → number r ≡ pos 0) rs ss
    all_none [] [] h = tt
    all_none [] (s ∷ ss) h = absurd h
    all_none (r ∷ rs) [] h = absurd h
    all_none (r ∷ rs) (s ∷ ss) h =
        (λ q. (let p = and_is (nat_lt low s) (nat_lt s (suc high)) q in h.0 (ltb-true low s p.0) (ltb-true s (suc high) p.1)), all_none rs ss h.1)
