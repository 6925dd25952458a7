-- An inside letter's leaf: which versions have no sum before it, which none after it, and that it adds up.
use Rattle.std.proofs.Common.{◌≡◌, ◌∙◌, ◌⊎◌, inl, inr, ℕ, zero, suc, ◌+◌, ◌*◌, ◌<◌, ◌≤◌, ℤ, pos, neg_ℤ, ◌+ℤ◌, Bool, true, false, cond, List, [], ◌∷◌, ◌++◌, length, map, refl, sym, ap, subst, arith, Option, None, Some}
use Rattle.std.specs.Prelude.{nat_eq, nat_lt, slice_index, if◌then◌else◌}
use Rattle.std.specs.List.{AllByRecursion}
use Rattle.std.proofs.lemmas.Int.{ints}
use Rattle.std.proofs.lemmas.Bool.{eq-eqb, ne_eqb, cases_eq, lt-ltb, ltb-true}
use Rattle.math_facts.specs.Terms.{coefficient}
use Rattle.nwa_base.specs.Members.{Member}
use Rattle.lin_rows.specs.Rows.{LinearRow}
use Rattle.lin_rows.specs.Tightening.{tightened}
use Rattle.lin_rows.specs.Combinations.{IsPart, combined}
use Rattle.farkas_check.specs.Refutes.{at_most, above}
use Rattle.letter_acts.specs.Invariant.{alphabet_of}
use Rattle.path_rows.specs.Versions.{Part, part_of}
use Rattle.letter_acts.specs.FrameRows.Rows.{columns_from}
use Rattle.path_rows.specs.Paths.{repeated}
use Rattle.path_rows.proofs.DifferLemmas.{length_written}
use Rattle.triple_rows.specs.Systems.{after_column}
use Rattle.nested_itp.specs.NestedPredicates.Stamps.{column_stamp}
use Rattle.nested_itp.specs.NestedPredicates.Positions.{innermost}
use Rattle.nested_itp.specs.NestedPredicates.Sums.{Branch, root_of, parts_upto, sum_upto, column_upto, known_sum}
use Rattle.nested_itp.proofs.NestedPredicates.StampLaws.{IsWithin, index_within, stamp_within, columns_of_word_within, root_stamped}
use Rattle.nested_itp.specs.NestedRefutations.Refutations.{side_of, multiplier}
use Rattle.nested_itp.specs.NestedRefutations.Numbers.{position_here, source, target}
use Rattle.nested_itp.proofs.NestedRefutations.RowsLaws.{AllPairs, pairs_joined}
use Rattle.nested_itp.proofs.NestedRefutations.WayLaws.{others, is_own, own_sum}
use Rattle.nested_itp.proofs.NestedRefutations.WindowLaws.{passing, none_counts, is_upto, sum_passes}
use Rattle.nested_itp.proofs.NestedRefutations.OwnLaws.{IsCutAt, cuts_same, no_cuts, cut_bounds, sum_stays}
use Rattle.nested_itp.proofs.NestedRefutations.AddingLaws.{InsideLeaf, inside_adds}
use Rattle.nested_itp.proofs.NestedRefutations.ClaimLaws.{IsTold, AddsUp}
use Rattle.nested_itp.proofs.NestedRefutations.ColumnLaws.{known_in}
use Rattle.nested_itp.proofs.NestedRefutations.ContentLaws.{tightened_off}
use Rattle.nested_itp.proofs.NestedRefutations.NamesLaws.{NamesOnly}
use Rattle.nested_itp.proofs.NestedRefutations.LiveLaws.{Live, names_live}
use Rattle.nested_itp.proofs.NestedRefutations.ReadLaws.{IsEarly}
use Rattle.nested_itp.proofs.NestedRefutations.VersionLaws.{columns_at, columns_count, split_at, AfterAt, StaysAt, after_absent, after_cases}
use Rattle.nested_itp.proofs.NestedRefutations.GoneLaws.{below_at, inside_gone}
use Rattle.nested_itp.proofs.NestedRefutations.MovingLaws.{rows_moved, rows_unnamed, bounds_moved}
use Rattle.nested_itp.proofs.NestedRefutations.LeavesLaws.{LeafFacts}
use Rattle.nested_itp.proofs.NestedRefutations.WordLaws.{HaveGlobals}
use Rattle.nested_itp.proofs.NestedRefutations.InsideAtLaws.{inside_to, inside_part_is}
use Rattle.nested_itp.proofs.NestedRefutations.InsideColumnLaws.{InsideLetter, frame_in, count_in, names_in, view_in, root_in, first_in, early_column, late_column, long_in, names_count, name_old, name_new, column_of, column_past}
use Rattle.nested_itp.proofs.NestedRefutations.InsideSumLaws.{own_block, new_block, stamps_now, front_in, later_rows, later_stamps, root_rows, root_stamps, later_within, early_front, now_counted, later_counted, OpenClaims, RowsFit, names_apart, same_rows, rows_added, leaf_counted, sums_differ}

-- ---- the state after the letter

in_frame : (c : InsideLetter) (j : ℕ) → j < length (inside_to c.r c.written).here → j < length c.r.stage.here
in_frame c j l = let m = length_written c.r.stage.here c.written (columns_from c.r.stage.made (length c.written)) in omega (arith, l, m)

cases_in : (c : InsideLetter) (j : ℕ) → j < length (inside_to c.r c.written).here →
    AfterAt (length c.r.stage.here) (length (frame_in c)) c.written c.r.stage.here (columns_from c.r.stage.made (length c.written)) j ⊎
    StaysAt (length (frame_in c)) c.written c.r.stage.here (columns_from c.r.stage.made (length c.written)) j
cases_in c j l =
    after_cases (length c.r.stage.here) (length (frame_in c)) c.written c.r.stage.here (columns_from c.r.stage.made (length c.written)) j c.at.acted.distinct
    (columns_count c.r.stage.made (length c.written)) (in_frame c j l)

-- the versions of its columns
there_in : (c : InsideLetter) (j : ℕ) → j < length (inside_to c.r c.written).here →
    (after_column 0 (length (frame_in c)) c.written j < length (names_in c)) ×
    (slice_index (names_in c) (after_column 0 (length (frame_in c)) c.written j) ≡ slice_index (inside_to c.r c.written).here j)
there_in c j l = by_case (cases_in c j l)
  where
    by_case : AfterAt (length c.r.stage.here) (length (frame_in c)) c.written c.r.stage.here (columns_from c.r.stage.made (length c.written)) j ⊎
        StaysAt (length (frame_in c)) c.written c.r.stage.here (columns_from c.r.stage.made (length c.written)) j →
        (after_column 0 (length (frame_in c)) c.written j < length (names_in c)) ×
        (slice_index (names_in c) (after_column 0 (length (frame_in c)) c.written j) ≡ slice_index (inside_to c.r c.written).here j)
    by_case (inl h) =
        let n = names_count c in
        let long = long_in c in
        let e = h.column in
        let b = h.is_written in (
          omega (arith, n, long, e, b),
          name_new c (after_column 0 (length (frame_in c)) c.written j) h.place (omega (arith, e, long)) (omega (arith, b)) ∙
              sym (h.version ∙ columns_at c.r.stage.made (length c.written) h.place h.is_written),
        )
    by_case (inr h) =
        let n = names_count c in
        let e = h.column in
        let b = in_frame c j l in (
          omega (arith, n, e, b),
          ap (slice_index (names_in c)) h.column ∙ name_old c j b ∙ sym h.version,
        )

after_from : (first : ℕ) (written : List ℕ) (d : ℕ) → (after_column 0 first written d ≡ d) ⊎ (first ≤ after_column 0 first written d)
after_from first [] d = inl (omega arith)
after_from first (w ∷ written) d = by_column (cases_eq w d) (after_from (suc first) written d)
  where
    by_column : (w ≡ d) ⊎ (w ≡ d → ⊥) → (after_column 0 (suc first) written d ≡ d) ⊎ (suc first ≤ after_column 0 (suc first) written d) →
        ((if nat_eq w d then first else after_column 0 (suc first) written d) ≡ d) ⊎ (first ≤ (if nat_eq w d then first else after_column 0 (suc first) written d))
    by_column (inl e) h = inr (rw (eq-eqb w d e) (omega arith))
    by_column (inr k) (inl h) = inl (rw (ne_eqb w d k) h)
    by_column (inr k) (inr h) = inr (rw (ne_eqb w d k) (omega (arith, h)))

-- columns of a frame stand in different columns after the letter
after_told : (n first : ℕ) (written : List ℕ) (i j : ℕ) → n ≤ first → i < n → j < n → after_column 0 first written i ≡ after_column 0 first written j → i ≡ j
after_told n first [] i j l a b e = omega (arith, e)
after_told n first (w ∷ written) i j l a b e =
    by_columns (cases_eq w i) (cases_eq w j) (after_from (suc first) written i) (after_from (suc first) written j) (λ q. after_told n (suc first) written i j (omega (arith, l)) a b q) e
  where
    by_columns : (w ≡ i) ⊎ (w ≡ i → ⊥) → (w ≡ j) ⊎ (w ≡ j → ⊥) → (after_column 0 (suc first) written i ≡ i) ⊎ (suc first ≤ after_column 0 (suc first) written i) →
        (after_column 0 (suc first) written j ≡ j) ⊎ (suc first ≤ after_column 0 (suc first) written j) → (after_column 0 (suc first) written i ≡ after_column 0 (suc first) written j → i ≡ j) →
        (if nat_eq w i then first else after_column 0 (suc first) written i) ≡ (if nat_eq w j then first else after_column 0 (suc first) written j) → i ≡ j
    by_columns (inl p) (inl q) x y f g = sym p ∙ q
    by_columns (inr p) (inr q) x y f g = f (sym (not_first i p) ∙ g ∙ not_first j q)
      where
        not_first : (d : ℕ) → (w ≡ d → ⊥) → (if nat_eq w d then first else after_column 0 (suc first) written d) ≡ after_column 0 (suc first) written d
        not_first d p = rw (ne_eqb w d p) refl
    by_columns (inl p) (inr q) x y f g = absurd (apart y (sym (first_at i p) ∙ g ∙ not_first j q))
      where
        first_at : (d : ℕ) → w ≡ d → (if nat_eq w d then first else after_column 0 (suc first) written d) ≡ first
        first_at d p = rw (eq-eqb w d p) refl

        not_first : (d : ℕ) → (w ≡ d → ⊥) → (if nat_eq w d then first else after_column 0 (suc first) written d) ≡ after_column 0 (suc first) written d
        not_first d p = rw (ne_eqb w d p) refl

        apart : (after_column 0 (suc first) written j ≡ j) ⊎ (suc first ≤ after_column 0 (suc first) written j) → first ≡ after_column 0 (suc first) written j → ⊥
        apart (inl h) q = omega (arith, h, q, b, l)
        apart (inr h) q = omega (arith, h, q)
    by_columns (inr p) (inl q) x y f g = absurd (apart x (sym (first_at j q) ∙ sym g ∙ not_first i p))
      where
        first_at : (d : ℕ) → w ≡ d → (if nat_eq w d then first else after_column 0 (suc first) written d) ≡ first
        first_at d p = rw (eq-eqb w d p) refl

        not_first : (d : ℕ) → (w ≡ d → ⊥) → (if nat_eq w d then first else after_column 0 (suc first) written d) ≡ after_column 0 (suc first) written d
        not_first d p = rw (ne_eqb w d p) refl

        apart : (after_column 0 (suc first) written i ≡ i) ⊎ (suc first ≤ after_column 0 (suc first) written i) → first ≡ after_column 0 (suc first) written i → ⊥
        apart (inl h) q = omega (arith, h, q, a, l)
        apart (inr h) q = omega (arith, h, q)

member_or : (xs : List ℕ) (x : ℕ) → Member xs x ⊎ (Member xs x → ⊥)
member_or [] x = inr (λ m. m)
member_or (y ∷ xs) x = by_first (cases_eq y x) (member_or xs x)
  where
    by_first : (y ≡ x) ⊎ (y ≡ x → ⊥) → Member xs x ⊎ (Member xs x → ⊥) → Member (y ∷ xs) x ⊎ (Member (y ∷ xs) x → ⊥)
    by_first (inl e) r = inl (inl e)
    by_first (inr n) (inl m) = inl (inr m)
    by_first (inr n) (inr k) = inr (λ m. either m)
      where
        either : (y ≡ x) ⊎ Member xs x → ⊥
        either (inl e) = n e
        either (inr m) = k m

-- what stands in another column is written, and the caller's sum does not speak of it
moved_unknown : (c : InsideLetter) (x : ℕ) → (after_column 0 (length (frame_in c)) c.written x ≡ x → ⊥) → known_in (innermost c.r.scopes).known x ≡ None
moved_unknown c x n = by_member (member_or c.written x)
  where
    by_member : Member c.written x ⊎ (Member c.written x → ⊥) → known_in (innermost c.r.scopes).known x ≡ None
    by_member (inl m) = c.at.unknown x m
    by_member (inr k) = absurd (n (after_absent 0 (length (frame_in c)) c.written x k ∙ (let e : 0 + x ≡ x = omega arith in e)))

pub unknown_sum : (b : Branch) (parts : List (ℕ × ℤ)) (own : ℕ) (o : Option ℕ) → o ≡ None → known_sum b parts own o ≡ pos 0
unknown_sum b parts own None e = refl
unknown_sum b parts own (Some v) e = absurd (cc)

-- ---- rows that do not name a version

-- of these rows those whose stamps pass do not name it
abbrev pub NotNamed : (ℕ → Type 0) → ℕ → List LinearRow → List ℕ → Type 0
NotNamed P y rows stamps = AllPairs (λ r s. P s → coefficient y r.terms ≡ pos 0) rows stamps

pub no_stamp : (P : ℕ → Type 0) (y : ℕ) (rows : List LinearRow) (ss : List ℕ) → length ss ≡ length rows → AllByRecursion (λ s. P s → ⊥) ss → NotNamed P y rows ss
no_stamp P y [] [] l h = tt
no_stamp P y [] (s ∷ ss) l h = absurd (omega (arith, l))
no_stamp P y (r ∷ rows) [] l h = absurd (omega (arith, l))
no_stamp P y (r ∷ rows) (s ∷ ss) l h = ((λ p. absurd (h.0 p)), no_stamp P y rows ss (omega (arith, l)) h.1)

pub no_name : (P : ℕ → Type 0) (y : ℕ) (rows : List LinearRow) (ss : List ℕ) → length ss ≡ length (map tightened rows) → AllByRecursion (λ r. coefficient y r.terms ≡ pos 0) rows → NotNamed P y (map tightened rows) ss
no_name P y [] [] l h = tt
no_name P y [] (s ∷ ss) l h = absurd (omega (arith, l))
no_name P y (r ∷ rows) [] l h = absurd (omega (arith, l))
no_name P y (r ∷ rows) (s ∷ ss) l h = ((λ p. tightened_off y r h.0), no_name P y rows ss (omega (arith, l)) h.1)

off_term : (x col : ℕ) (a : ℤ) → (col ≡ x → ⊥) → coefficient x ((col, a) ∷ []) ≡ pos 0
off_term x col a n = rw (ne_eqb col x n) (omega (arith, ints))

-- the row of a cut names its column alone
pub no_cut : (columns : List ℕ) (P : ℕ → Type 0) (y : ℕ) → ((col : ℕ) → col < length columns → P (column_stamp columns col) → col ≡ y → ⊥) → (rows : List LinearRow) (ss : List ℕ) →
    AllPairs (IsCutAt columns) rows ss → NotNamed P y rows ss
no_cut columns P y f [] [] h = tt
no_cut columns P y f [] (s ∷ ss) h = absurd h
no_cut columns P y f (r ∷ rows) [] h = absurd h
no_cut columns P y f (r ∷ rows) (s ∷ ss) h =
    ((λ p. ap (λ (x : LinearRow). coefficient y x.terms) h.0.row_is ∙ off_side h.0.side (subst P h.0.stamp_is p)), no_cut columns P y f rows ss h.1)
  where
    off_side : (side : Bool) → P (column_stamp columns h.0.column) → coefficient y (side_of side (at_most h.0.column h.0.bound) (above h.0.column h.0.bound)).terms ≡ pos 0
    off_side false p = off_term y h.0.column (pos 1) (f h.0.column h.0.below p)
    off_side true p = off_term y h.0.column (neg_ℤ (pos 1)) (f h.0.column h.0.below p)

pub all_weaker : {X : Type 0} (P Q : X → Type 0) → ((x : X) → P x → Q x) → (xs : List X) → AllByRecursion P xs → AllByRecursion Q xs
all_weaker P Q f [] h = tt
all_weaker P Q f (x ∷ xs) h = (f x h.0, all_weaker P Q f xs h.1)

-- the rows of the branch in parts
branch_not_named : (c : InsideLetter) (more : List LinearRow) (late : List ℕ) (n : ℕ) (b : Branch) (parts : List (ℕ × ℤ)) → LeafFacts (view_in c) (root_in c) more late n b parts →
    (P : ℕ → Type 0) (y : ℕ) → NotNamed P y (front_in c) c.at.along.read.early → NotNamed P y (own_block c ++ new_block c) (stamps_now c) → NotNamed P y (map tightened (later_rows c)) (later_stamps c) →
    NotNamed P y more late → NotNamed P y b.rows b.stamps
branch_not_named c more late n b parts f P y front now later cuts =
    let Q : LinearRow → ℕ → Type 0 = λ r s. P s → coefficient y r.terms ≡ pos 0 in
    let rest = pairs_joined Q (own_block c ++ new_block c) (stamps_now c) (map tightened (later_rows c)) (later_stamps c) now later in
    let root = pairs_joined Q (front_in c) c.at.along.read.early ((own_block c ++ new_block c) ++ map tightened (later_rows c)) (stamps_now c ++ later_stamps c) front rest in
    let all = pairs_joined Q (front_in c ++ ((own_block c ++ new_block c) ++ map tightened (later_rows c))) (c.at.along.read.early ++ (stamps_now c ++ later_stamps c)) more late root cuts in
    subst (λ (rs : List LinearRow). NotNamed P y rs b.stamps) (sym (f.rows ∙ ap (λ (l : List LinearRow). l ++ more) (root_rows c)))
    (subst (NotNamed P y ((front_in c ++ ((own_block c ++ new_block c) ++ map tightened (later_rows c))) ++ more)) (sym (f.stamps ∙ ap (λ (l : List ℕ). l ++ late) (root_stamps c))) all)

repeated_now : (P : ℕ → Type 0) (c : InsideLetter) → P (2 * suc c.r.letters) → AllByRecursion P (stamps_now c)
repeated_now P c h =
    all_both (repeated (2 * suc c.r.letters) (length (own_block c))) (repeated (2 * suc c.r.letters) (length (new_block c)))
    (all_repeated (length (own_block c))) (all_repeated (length (new_block c)))
  where
    all_both : (xs ys : List ℕ) → AllByRecursion P xs → AllByRecursion P ys → AllByRecursion P (xs ++ ys)
    all_both [] ys a b = b
    all_both (x ∷ xs) ys a b = (a.0, all_both xs ys a.1 b)

    all_repeated : (n : ℕ) → AllByRecursion P (repeated (2 * suc c.r.letters) n)
    all_repeated zero = tt
    all_repeated (suc n) = (h, all_repeated n)

-- ---- sums that are nothing

-- a version that was not made before the letter has no sum there
pub new_in : (c : InsideLetter) (more : List LinearRow) (late : List ℕ) (n : ℕ) (b : Branch) (parts : List (ℕ × ℤ)) → LeafFacts (view_in c) (root_in c) more late n b parts →
    (y : ℕ) → c.r.stage.made ≤ y → column_upto b parts (suc (2 * c.r.letters)) y ≡ pos 0
new_in c more late n b parts f y l =
    let P : ℕ → Type 0 = λ s. is_upto (suc (2 * c.r.letters)) s ≡ true in
    sum_passes b parts (λ r. coefficient y r.terms) (suc (2 * c.r.letters)) (leaf_counted c more late n b parts f) f.contradicts.each ∙
    none_counts (is_upto (suc (2 * c.r.letters))) (λ k. coefficient k parts) (λ r. coefficient y r.terms) 0 b.rows b.stamps
    (branch_not_named c more late n b parts f P y
    (no_name P y c.at.along.read.front c.at.along.read.early (early_front c)
    (all_weaker (NamesOnly (λ x. x < c.r.stage.made)) (λ r. coefficient y r.terms ≡ pos 0) (λ r h. h y (λ m. omega (arith, l, m))) c.at.along.read.front c.at.along.read.named))
    (no_stamp P y (own_block c ++ new_block c) (stamps_now c) (now_counted c) (repeated_now (λ s. P s → ⊥) c (λ p. after_upto (2 * suc c.r.letters) p (omega arith))))
    (no_stamp P y (map tightened (later_rows c)) (later_stamps c) (later_counted c)
    (all_weaker (λ s. 2 * suc (suc c.r.letters) ≤ s) (λ s. P s → ⊥) (λ s m p. after_upto s p (omega (arith, m))) (later_stamps c) (later_within c)))
    (no_cut (view_in c).columns P y (λ col k p e. (let m = early_column c col k (ltb-true (column_stamp (view_in c).columns col) (suc (suc (2 * c.r.letters))) p) in omega (arith, m, l, e))) more late f.cuts))
  where
    after_upto : (s : ℕ) → is_upto (suc (2 * c.r.letters)) s ≡ true → suc (2 * c.r.letters) < s → ⊥
    after_upto s p m = let k = ltb-true s (suc (suc (2 * c.r.letters))) p in omega (arith, k, m)

pub all_counted : (s : ℕ) (b : Branch) (parts : List (ℕ × ℤ)) → length b.stamps ≡ length b.rows → AllByRecursion (λ x. x < suc s) b.stamps → AllByRecursion (IsPart b.rows) parts → parts_upto b.stamps s parts ≡ parts
all_counted s b [] l h each = refl
all_counted s b (t ∷ ts) l h each =
    kept (nat_lt (slice_index b.stamps t.0) (suc s)) (parts_upto b.stamps s ts)
    (lt-ltb (slice_index b.stamps t.0) (suc s) (index_within (λ x. x < suc s) b.stamps t.0 (let k = each.0.exists in omega (arith, l, k)) h)) (all_counted s b ts l h each.1)
  where
    kept : (z : Bool) (rest : List (ℕ × ℤ)) → z ≡ true → rest ≡ ts → cond z (t ∷ rest) rest ≡ t ∷ ts
    kept true rest e q = ap (λ (l : List (ℕ × ℤ)). t ∷ l) q
    kept false rest e q = absurd (cc)

pub all_joined : (P : ℕ → Type 0) (xs ys : List ℕ) → AllByRecursion P xs → AllByRecursion P ys → AllByRecursion P (xs ++ ys)
all_joined P [] ys h k = k
all_joined P (x ∷ xs) ys h k = (h.0, all_joined P xs ys h.1 k)

pub cut_stamps : (columns : List ℕ) (limit : ℕ) → 2 < limit → AllByRecursion (IsWithin limit) columns → (rows : List LinearRow) (ss : List ℕ) → AllPairs (IsCutAt columns) rows ss → AllByRecursion (λ x. x < suc limit) ss
cut_stamps columns limit two h [] [] k = tt
cut_stamps columns limit two h [] (s ∷ ss) k = absurd k
cut_stamps columns limit two h (r ∷ rows) [] k = absurd k
cut_stamps columns limit two h (r ∷ rows) (s ∷ ss) k =
    let w : IsWithin limit (column_stamp columns k.0.column) = stamp_within limit k.0.column columns two h in
    let a = w.1 in
    let e = k.0.stamp_is in
    (omega (arith, a, e), cut_stamps columns limit two h rows ss k.1)

-- what the rest of the word does not name has no sum after the letter, since all rows have none
pub gone_in : (c : InsideLetter) (more : List LinearRow) (late : List ℕ) (n : ℕ) (b : Branch) (parts : List (ℕ × ℤ)) → LeafFacts (view_in c) (root_in c) more late n b parts →
    (y : ℕ) → y < c.r.stage.made + count_in c → AllByRecursion (λ r. coefficient y r.terms ≡ pos 0) (later_rows c) → column_upto b parts (suc (2 * suc c.r.letters)) y ≡ pos 0
gone_in c more late n b parts f y l named =
    let low : ℕ = suc (2 * suc c.r.letters) in
    let limit : ℕ = 2 * (2 + length c.w) in
    let high : ℕ = limit + low in
    let P : ℕ → Type 0 = λ s. low < s × (s < suc high) in
    let counted = leaf_counted c more late n b parts f in
    let number : LinearRow → ℤ = λ r. coefficient y r.terms in
    let pairs = branch_not_named c more late n b parts f P y
    (no_stamp P y (front_in c) c.at.along.read.early (early_front c) (all_weaker (IsEarly c.r.letters) (λ s. P s → ⊥) (λ s e p. early_low s e p.0) c.at.along.read.early c.at.along.read.early_within))
    (no_stamp P y (own_block c ++ new_block c) (stamps_now c) (now_counted c) (repeated_now (λ s. P s → ⊥) c (λ p. (let a = p.0 in omega (arith, a)))))
    (no_name P y (later_rows c) (later_stamps c) (later_counted c) named)
    (no_cut (view_in c).columns P y (λ col k p e. (let m = late_column c col k p.0 in omega (arith, m, l, e))) more late f.cuts) in
    let stays : sum_upto b parts number high ≡ sum_upto b parts number low = sum_stays b parts number low high (omega arith) counted f.contradicts.each
    (curried b.rows b.stamps low high pairs) in
    let within : AllByRecursion (λ x. x < suc high) b.stamps = subst (AllByRecursion (λ x. x < suc high)) (sym f.stamps)
    (all_joined (λ x. x < suc high) (root_of c.g c.w).stamps late
    (all_weaker (IsWithin limit) (λ x. x < suc high) (λ x h. (let a = h.1 in omega (arith, a))) (root_of c.g c.w).stamps (root_stamped limit c.g c.w (omega arith) (omega arith)).within)
    (all_weaker (λ x. x < suc limit) (λ x. x < suc high) (λ x h. omega (arith, h)) late
    (cut_stamps (view_in c).columns limit (omega arith) (columns_of_word_within limit c.g c.w (omega arith) (omega arith)) more late f.cuts))) in
    sym stays ∙ ap (combined number b.rows) (all_counted high b parts counted within f.contradicts.each) ∙ f.contradicts.columns_vanish y
  where
    early_low : (s : ℕ) → IsEarly c.r.letters s → suc (2 * suc c.r.letters) < s → ⊥
    early_low s (two, inl e) p = omega (arith, e, p)
    early_low s (two, inr e) p = omega (arith, e, p)

    curried : (rows : List LinearRow) (ss : List ℕ) (low high : ℕ) → NotNamed (λ s. low < s × (s < suc high)) y rows ss → AllPairs (λ r s. low < s → s < suc high → coefficient y r.terms ≡ pos 0) rows ss
    curried [] [] low high h = tt
    curried [] (s ∷ ss) low high h = absurd h
    curried (r ∷ rows) [] low high h = absurd h
    curried (r ∷ rows) (s ∷ ss) low high h = ((λ a k. h.0 (a, k)), curried rows ss low high h.1)

-- the rows of the rest of the word do not name what the letter leaves
pub left_unnamed : (c : InsideLetter) → HaveGlobals c.g c.globals → (x : ℕ) → x < length (names_in c) →
    ((j : ℕ) → j < length (inside_to c.r c.written).here → after_column 0 (length (frame_in c)) c.written j ≡ x → ⊥) →
    AllByRecursion (λ r. coefficient (slice_index (names_in c) x) r.terms ≡ pos 0) (later_rows c)
unfolding later_rows
left_unnamed c have x l off =
    let al = alphabet_of c.g in
    let y : ℕ = slice_index (names_in c) x in
    let part : Part = part_of al c.a c.r.stage in
    let n = names_count c in
    let long = long_in c in
    all_weaker (NamesOnly (Live c.globals part.after c.rest)) (λ r. coefficient y r.terms ≡ pos 0)
    (λ r h. h y (λ live. inside_gone c.g c.globals have (frame_in c) c.written c.helpers c.rows c.r.stage c.at.along.goes.places c.at.versions c.at.along.goes.comes.saved c.at.acted.distinct c.rest x (omega (arith, l, n))
    (λ j k e. off j (in_after j k) (ap (λ (m : ℕ). after_column 0 m c.written j) (sym long) ∙ e))
    (subst (λ (z : Part). Live c.globals z.after c.rest y) (inside_part_is c.g c.globals c.w c.r c.a c.rest c.q c.written c.helpers c.rows c.at) live)))
    (later_rows c) (names_live al c.globals (suc (suc c.r.letters)) part.after c.rest c.at.along.names.1)
  where
    in_after : (j : ℕ) → j < length c.r.stage.here → j < length (inside_to c.r c.written).here
    in_after j k = let m = length_written c.r.stage.here c.written (columns_from c.r.stage.made (length c.written)) in omega (arith, k, m)

-- ---- the leaf

pub nothing_passes : (test : ℕ → Bool) (times : ℕ → ℤ) (k : ℕ) (rows : List LinearRow) (ss : List ℕ) → length ss ≡ length rows → passing test times (λ r. pos 0) k rows ss ≡ pos 0
nothing_passes test times k rows ss l = none_counts test times (λ r. pos 0) k rows ss (zeros rows ss l)
  where
    zeros : (rows : List LinearRow) (ss : List ℕ) → length ss ≡ length rows → AllPairs (λ r s. test s ≡ true → pos 0 ≡ pos 0) rows ss
    zeros [] [] l = tt
    zeros [] (s ∷ ss) l = absurd (omega (arith, l))
    zeros (r ∷ rows) [] l = absurd (omega (arith, l))
    zeros (r ∷ rows) (s ∷ ss) l = ((λ e. refl), zeros rows ss (omega (arith, l)))

-- its columns are told apart in the system
pub inside_told : (c : InsideLetter) → IsTold (target (inside_to c.r c.written) (after_column 0 (length (frame_in c)) c.written))
inside_told c i j l m e =
    after_told (length (frame_in c)) (length (frame_in c)) c.written i j (omega arith) (let k = in_frame c i l in let q = long_in c in omega (arith, k, q))
    (let k = in_frame c j m in let q = long_in c in omega (arith, k, q)) e

pub inside_leaf : (c : InsideLetter) → HaveGlobals c.g c.globals → OpenClaims c → RowsFit c → (more : List LinearRow) (late : List ℕ) (n : ℕ) (b : Branch) (parts : List (ℕ × ℤ)) →
    LeafFacts (view_in c) (root_in c) more late n b parts → InsideLeaf (view_in c) (root_in c) (first_in c) more late n b parts
inside_leaf c have o fits more late n b parts f = record {
  before = source (position_here c.r) (λ x. x);
  after = target (inside_to c.r c.written) (after_column 0 (length (frame_in c)) c.written);
  claims = refl;
  returns = refl;
  holds = refl;
  fails = refl;
  scope = refl;
  told = λ i j l m e. e;
  told_after = λ i j l m e. inside_told c i j l m e;
  same_column = λ j. refl;
  long = length_written c.r.stage.here c.written (columns_from c.r.stage.made (length c.written));
  width = length (names_in c);
  wide = (let m = names_count c in omega (arith, m));
  hit_below = λ j l. (there_in c j l).0;
  version = slice_index (names_in c);
  added = λ x l. sums_differ c o more late n b parts f (λ r. coefficient x r.terms) (λ r. coefficient (slice_index (names_in c) x) r.terms)
      (same_rows c (λ r s. coefficient x r.terms ≡ coefficient (slice_index (names_in c) x) s.terms) fits (λ rows h k. rows_moved (names_in c) (names_apart c) x l rows h k))
      (cuts_same (view_in c) (multiplier (view_in c) n b parts) x (slice_index (names_in c) x) (column_of c x l) (length (root_of c.g c.w).rows) more late f.cuts);
  added_bound = sums_differ c o more late n b parts f (λ r. r.bound) (λ r. r.bound)
      (same_rows c (λ r s. r.bound ≡ s.bound) fits (λ rows h k. bounds_moved (names_in c) (names_apart c) rows h k))
      (cut_bounds (view_in c) (multiplier (view_in c) n b parts) (length (root_of c.g c.w).rows) more late);
  past = λ x l. past_in x l;
  here = λ j l. name_old c j l;
  there = λ j l. (there_in c j l).1;
  gone = λ x l off. gone_in c more late n b parts f (slice_index (names_in c) x) (name_below x l) (left_unnamed c have x l off);
  gone_known = λ x l off. unknown_sum b parts (innermost c.r.scopes).own (known_in (innermost c.r.scopes).known x)
      (moved_unknown c x (λ e. off x (let m = length_written c.r.stage.here c.written (columns_from c.r.stage.made (length c.written)) in omega (arith, l, m)) e));
  new = λ x l m. new_in c more late n b parts f (slice_index (names_in c) x) (name_after x l m);
  new_known = λ j l m. unknown_sum b parts (innermost c.r.scopes).own (known_in (innermost c.r.scopes).known j)
      (moved_unknown c j (λ e. (let k = in_frame c j l in omega (arith, m, e, k))));
  kept = λ j l m. kept_in j m (cases_in c j l);
}
  where
    name_below : (x : ℕ) → x < length (names_in c) → slice_index (names_in c) x < c.r.stage.made + count_in c
    name_below x l = by_part (split_at (length c.r.stage.here) x)
      where
        by_part : (x < length c.r.stage.here) ⊎ ((i : ℕ) × (x ≡ length c.r.stage.here + i)) → slice_index (names_in c) x < c.r.stage.made + count_in c
        by_part (inl k) = let a = below_at c.r.stage.made c.r.stage.here x c.at.versions.below k in let e = name_old c x k in omega (arith, a, e)
        by_part (inr h) =
            let i = h.1 in
            let m = names_count c in
            let e = name_new c x h.0 h.1 (omega (arith, i, m, l)) in
            omega (arith, e, i, m, l)

    name_after : (x : ℕ) → length c.r.stage.here ≤ x → x < length (names_in c) → c.r.stage.made ≤ slice_index (names_in c) x
    name_after x l m = by_part (split_at (length c.r.stage.here) x)
      where
        by_part : (x < length c.r.stage.here) ⊎ ((i : ℕ) × (x ≡ length c.r.stage.here + i)) → c.r.stage.made ≤ slice_index (names_in c) x
        by_part (inl k) = absurd (omega (arith, k, l))
        by_part (inr h) =
            let i = h.1 in
            let k = names_count c in
            let e = name_new c x h.0 h.1 (omega (arith, i, k, m)) in
            omega (arith, e)

    kept_in : (j : ℕ) → after_column 0 (length (frame_in c)) c.written j < length c.r.stage.here →
        AfterAt (length c.r.stage.here) (length (frame_in c)) c.written c.r.stage.here (columns_from c.r.stage.made (length c.written)) j ⊎
        StaysAt (length (frame_in c)) c.written c.r.stage.here (columns_from c.r.stage.made (length c.written)) j → after_column 0 (length (frame_in c)) c.written j ≡ j
    kept_in j m (inl h) = let e = h.column in let long = long_in c in absurd (omega (arith, m, e, long))
    kept_in j m (inr h) = h.column

    past_in : (x : ℕ) → length (names_in c) ≤ x → others (multiplier (view_in c) n b parts) (λ r. coefficient x r.terms) (first_in c).roles (first_in c).rows +ℤ
        own_sum (view_in c) (multiplier (view_in c) n b parts) (λ r. coefficient x r.terms) (length (root_of c.g c.w).rows) more late ≡ pos 0
    past_in x l =
        let a = rows_added c o (multiplier (view_in c) n b parts) (λ r. coefficient x r.terms) (λ r. pos 0)
        (same_rows c (λ r s. coefficient x r.terms ≡ pos 0) fits (λ rows h k. rows_unnamed (names_in c) x l rows k)) in
        let d = nothing_passes (is_own (view_in c)) (λ j. coefficient j parts) 0 (front_in c) c.at.along.read.early (early_front c) in
        let e = nothing_passes (is_own (view_in c)) (λ j. coefficient j parts) (length (front_in c)) (own_block c ++ new_block c) (stamps_now c) (now_counted c) in
        let m = no_cuts (view_in c) (multiplier (view_in c) n b parts) x (column_past c x l) (length (root_of c.g c.w).rows) more late f.cuts in
        omega (arith, ints, a, d, e, m)

pub inside_adds_up : (c : InsideLetter) → HaveGlobals c.g c.globals → OpenClaims c → RowsFit c → (more : List LinearRow) (late : List ℕ) (n : ℕ) (b : Branch) (parts : List (ℕ × ℤ)) →
    LeafFacts (view_in c) (root_in c) more late n b parts → AddsUp (view_in c) (root_in c) (first_in c) more late n b parts
inside_adds_up c have o fits more late n b parts f = inside_adds (view_in c) (root_in c) (first_in c) more late n b parts (inside_leaf c have o fits more late n b parts f)
