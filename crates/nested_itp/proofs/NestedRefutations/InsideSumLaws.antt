-- What an inside letter's rows and own cuts add at a leaf: the difference of the word's sums after and before it.
use Rattle.std.proofs.Common.{◌≡◌, ◌∙◌, ◌⊎◌, inl, inr, ℕ, zero, suc, ◌+◌, ◌*◌, ◌<◌, ◌≤◌, ℤ, ◌+ℤ◌, Bool, true, false, List, [], ◌∷◌, ◌++◌, length, map, refl, sym, ap, subst, arith, append_assoc, length-append, Option, Some}
use Rattle.std.specs.Prelude.{slice_index, slice_get, ◌-ℤ◌, if◌then◌else◌}
use Rattle.std.specs.List.{AllByRecursion}
use Rattle.std.proofs.lemmas.Int.{ints}
use Rattle.std.proofs.lemmas.Bool.{ne_eqb, eq-eqb}
use Rattle.std.proofs.lemmas.List.{map-append, length-map}
use Rattle.math_facts.specs.Terms.{coefficient, IsBelow}
use Rattle.lin_rows.specs.Rows.{LinearRow, IsRow}
use Rattle.lin_rows.specs.Tightening.{tightened}
use Rattle.letter_acts.specs.Frames.{Columns}
use Rattle.letter_acts.specs.Acts.{PlainAct, act_of}
use Rattle.letter_acts.specs.Invariant.{inside_width, alphabet_of}
use Rattle.path_rows.specs.Versions.{Part, part_of}
use Rattle.letter_acts.specs.FrameRows.Rows.{columns_from, renamed, bounds, types_of, types_at}
use Rattle.path_rows.specs.Versions as versions
use Rattle.path_rows.specs.Paths.{repeated, start_frame, first_stage, path_along}
use Rattle.triple_rows.specs.Systems.{PlainSystem, PlainFits, said, denied, after_column}
use Rattle.triple_rows.specs.Triples.{system_of}
use Rattle.nested_itp.specs.NestedPredicates.Stamps.{row_stamps, stamps_along}
use Rattle.nested_itp.specs.NestedPredicates.Sums.{Branch, root_of, sum_upto}
use Rattle.nested_itp.specs.NestedPredicates.Joins.{predicate_at}
use Rattle.nested_itp.proofs.NestedPredicates.StampLaws.{root_stamped}
use Rattle.nested_itp.specs.NestedRefutations.Refutations.{Claim, exposed, rows_in, said_at, Role, spare, branch_row, atom_roles, is_used, multiplier}
use Rattle.nested_itp.specs.NestedRefutations.Numbers.{branch_rows, spares, before_bounds, bounds_in, Reading, position_here, source, target}
use Rattle.nested_itp.proofs.NestedRefutations.TruthLaws.{IsOpen}
use Rattle.nested_itp.proofs.NestedRefutations.SpotLaws.{IsUncased, uncased_stands}
use Rattle.nested_itp.proofs.NestedRefutations.HeldLaws.{truth_at}
use Rattle.nested_itp.proofs.NestedRefutations.RowsLaws.{AllPairs, pairs_counted}
use Rattle.nested_itp.proofs.NestedRefutations.WayLaws.{RoleFits, others, is_own, own_sum}
use Rattle.nested_itp.proofs.NestedRefutations.WindowLaws.{passing, none_passes}
use Rattle.nested_itp.proofs.NestedRefutations.OwnLaws.{IsCutAt, Parted, own_parts, window_sum}
use Rattle.nested_itp.proofs.NestedRefutations.AddingLaws.{spares_add, rows_add}
use Rattle.nested_itp.proofs.NestedRefutations.InsideLaws.{inside_rows_add}
use Rattle.nested_itp.proofs.NestedRefutations.BeginLaws.{claim_pairs}
use Rattle.nested_itp.proofs.NestedRefutations.ContentLaws.{DiffersBelow}
use Rattle.nested_itp.proofs.NestedRefutations.ReadLaws.{IsEarly, stamps_from}
use Rattle.nested_itp.proofs.NestedRefutations.VersionLaws.{names_differ}
use Rattle.nested_itp.proofs.NestedRefutations.MovingLaws.{rows_fit, all_parted, bounds_renamed, bounds_below, bounds_counted}
use Rattle.nested_itp.proofs.NestedRefutations.LeavesLaws.{LeafFacts}
use Rattle.nested_itp.proofs.NestedRefutations.AlongLaws.{first_reading}
use Rattle.nested_itp.proofs.NestedRefutations.InsideAtLaws.{inside_to, inside_part_is, system_is, inside_system_rows}
use Rattle.nested_itp.proofs.NestedRefutations.InsideColumnLaws.{InsideLetter, frame_in, count_in, names_in, step_in, view_in, root_in, first_in, length-repeated, own_low, own_here, own_high, long_in, names_count, name_new, name_first}

-- ---- the rows of the letter

-- those of its system, before they are tightened
abbrev pub bounds_on : InsideLetter → List LinearRow
bounds_on c = bounds (length (frame_in c)) (types_at (frame_in c) c.written)

-- and those of the word
abbrev pub own_block : InsideLetter → List LinearRow
own_block c = map tightened (map (renamed (slice_index (names_in c))) c.rows)

abbrev pub new_block : InsideLetter → List LinearRow
new_block c = map tightened (map (renamed (slice_index (names_in c))) (bounds_on c))

abbrev pub stamps_now : InsideLetter → List ℕ
stamps_now c = repeated (2 * suc c.r.letters) (length (own_block c)) ++ repeated (2 * suc c.r.letters) (length (new_block c))

abbrev pub front_in : InsideLetter → List LinearRow
front_in c = map tightened c.at.along.read.front

length_at : (c : InsideLetter) (ws : List ℕ) → length (types_at (frame_in c) ws) ≡ length ws
length_at c [] = refl
length_at c (d ∷ ws) = ap suc (length_at c ws)

bounds_are : (c : InsideLetter) → map (renamed (slice_index (names_in c))) (bounds_on c) ≡ bounds c.r.stage.made (types_at (frame_in c) c.written)
bounds_are c = bounds_renamed (slice_index (names_in c)) (length (frame_in c)) c.r.stage.made (types_at (frame_in c) c.written)
    (λ i l. (let long = long_in c in let m = length_at c c.written in name_new c (length (frame_in c) + i) i (omega (arith, long)) (omega (arith, l, m))))

-- the rows of the letter in the word
block_is : (c : InsideLetter) → map tightened (versions.part_rows (part_of (alphabet_of c.g) c.a c.r.stage)) ≡ own_block c ++ new_block c
block_is c =
    let own : List LinearRow = map (renamed (slice_index (names_in c))) c.rows in
    ap (λ (x : Part). map tightened (versions.part_rows x)) (inside_part_is c.g c.globals c.w c.r c.a c.rest c.q c.written c.helpers c.rows c.at) ∙
    map-append tightened own (bounds c.r.stage.made (types_at (frame_in c) c.written)) ∙
    ap (λ (l : List LinearRow). own_block c ++ map tightened l) (sym (bounds_are c))

repeated_parts : (x m n : ℕ) → repeated x (m + n) ≡ repeated x m ++ repeated x n
repeated_parts x zero n = ap (repeated x) (let e : 0 + n ≡ n = omega arith in e)
repeated_parts x (suc m) n = ap (repeated x) (let e : suc m + n ≡ suc (m + n) = omega arith in e) ∙ ap (λ (l : List ℕ). x ∷ l) (repeated_parts x m n)

now_is : (c : InsideLetter) → row_stamps (suc c.r.letters) (act_of (alphabet_of c.g) c.a) (part_of (alphabet_of c.g) c.a c.r.stage) ≡ stamps_now c
now_is c =
    let part : Part = part_of (alphabet_of c.g) c.a c.r.stage in
    let count : length (versions.part_rows part) ≡ length (own_block c) + length (new_block c) =
    sym (length-map (versions.part_rows part) tightened) ∙ ap (λ (l : List LinearRow). length l) (block_is c) ∙ length-append (own_block c) (new_block c) in
    ap (λ (o : Option PlainAct). row_stamps (suc c.r.letters) o part) c.at.act_is ∙ ap (repeated (2 * suc c.r.letters)) count ∙
    repeated_parts (2 * suc c.r.letters) (length (own_block c)) (length (new_block c))

-- ---- the rows of the branch in parts

unfoldable pub later_rows : InsideLetter → List LinearRow
later_rows c = (path_along (alphabet_of c.g) (suc (suc c.r.letters)) (part_of (alphabet_of c.g) c.a c.r.stage).after c.rest).rows

unfoldable pub later_stamps : InsideLetter → List ℕ
later_stamps c = (stamps_along (alphabet_of c.g) (suc (suc c.r.letters)) (part_of (alphabet_of c.g) c.a c.r.stage).after c.rest).rows

pub root_rows : (c : InsideLetter) → (root_of c.g c.w).rows ≡ front_in c ++ ((own_block c ++ new_block c) ++ map tightened (later_rows c))
unfolding later_rows
root_rows c =
    let part : Part = part_of (alphabet_of c.g) c.a c.r.stage in
    ap (map tightened) c.at.along.read.rows ∙ map-append tightened c.at.along.read.front (versions.part_rows part ++ later_rows c) ∙
    ap (λ (l : List LinearRow). front_in c ++ l) (map-append tightened (versions.part_rows part) (later_rows c) ∙ ap (λ (l : List LinearRow). l ++ map tightened (later_rows c)) (block_is c))

pub root_stamps : (c : InsideLetter) → (root_of c.g c.w).stamps ≡ c.at.along.read.early ++ (stamps_now c ++ later_stamps c)
unfolding later_stamps
root_stamps c = c.at.along.read.stamps ∙ ap (λ (l : List ℕ). c.at.along.read.early ++ (l ++ later_stamps c)) (now_is c)

pub later_within : (c : InsideLetter) → AllByRecursion (λ s. 2 * suc (suc c.r.letters) ≤ s) (later_stamps c)
unfolding later_stamps
later_within c = (stamps_from (alphabet_of c.g) (suc (suc c.r.letters)) (part_of (alphabet_of c.g) c.a c.r.stage).after c.rest).0

pub root_counted : (c : InsideLetter) → length (root_of c.g c.w).stamps ≡ length (root_of c.g c.w).rows
root_counted c = (root_stamped (2 * (2 + length c.w)) c.g c.w (omega arith) (omega arith)).as_many

all_true : (P : ℕ → Type 0) (Q : ℕ → Type 0) → ((s : ℕ) → P s → Q s) → (ss : List ℕ) → AllByRecursion P ss → AllByRecursion Q ss
all_true P Q f [] h = tt
all_true P Q f (s ∷ ss) h = (f s h.0, all_true P Q f ss h.1)

pub early_front : (c : InsideLetter) → length c.at.along.read.early ≡ length (front_in c)
early_front c = c.at.along.read.early_count ∙ sym (length-map c.at.along.read.front tightened)

pub now_counted : (c : InsideLetter) → length (stamps_now c) ≡ length (own_block c ++ new_block c)
now_counted c =
    let a = length-append (repeated (2 * suc c.r.letters) (length (own_block c))) (repeated (2 * suc c.r.letters) (length (new_block c))) in
    let b = length-repeated (2 * suc c.r.letters) (length (own_block c)) in
    let d = length-repeated (2 * suc c.r.letters) (length (new_block c)) in
    let e = length-append (own_block c) (new_block c) in
    omega (arith, a, b, d, e)

pub later_counted : (c : InsideLetter) → length (later_stamps c) ≡ length (map tightened (later_rows c))
later_counted c =
    let a = ap (λ (l : List ℕ). length l) (root_stamps c) ∙ length-append c.at.along.read.early (stamps_now c ++ later_stamps c) in
    let b = length-append (stamps_now c) (later_stamps c) in
    let d = ap (λ (l : List LinearRow). length l) (root_rows c) ∙ length-append (front_in c) ((own_block c ++ new_block c) ++ map tightened (later_rows c)) in
    let e = length-append (own_block c ++ new_block c) (map tightened (later_rows c)) in
    let f = early_front c in
    let h = now_counted c in
    let k = root_counted c in
    omega (arith, a, b, d, e, f, h, k)

pub parted_in : (c : InsideLetter) (more : List LinearRow) (late : List ℕ) (n : ℕ) (b : Branch) (parts : List (ℕ × ℤ)) → LeafFacts (view_in c) (root_in c) more late n b parts →
    Parted (view_in c) (root_of c.g c.w) b (front_in c) (own_block c ++ new_block c) c.at.along.read.early (stamps_now c) more late
parted_in c more late n b parts f = record {
  rest = map tightened (later_rows c);
  after = later_stamps c;
  rows = root_rows c;
  stamps = root_stamps c;
  early_count = early_front c;
  now_count = now_counted c;
  after_count = later_counted c;
  not_own = all_true (λ s. 2 * suc (suc c.r.letters) ≤ s) (λ s. is_own (view_in c) s ≡ false) (λ s l. own_high c s (omega (arith, l))) (later_stamps c) (later_within c);
  branch_rows = f.rows;
  branch_stamps = f.stamps;
}

-- ---- the rows of the system in parts

five_joined : {X : Type 0} (a b c d e : List X) → a ++ b ++ c ++ d ++ e ≡ a ++ (b ++ (c ++ (d ++ e)))
five_joined a b c d e = append_assoc (a ++ b ++ c) d e ∙ append_assoc (a ++ b) c (d ++ e) ∙ append_assoc a b (c ++ (d ++ e))

five_mapped : {X Y : Type 0} (f : X → Y) (a b c d e : List X) → map f (a ++ (b ++ (c ++ (d ++ e)))) ≡ map f a ++ (map f b ++ (map f c ++ (map f d ++ map f e)))
five_mapped f a b c d e =
    map-append f a (b ++ (c ++ (d ++ e))) ∙ ap (λ l. map f a ++ l) (map-append f b (c ++ (d ++ e)) ∙
    ap (λ l. map f b ++ l) (map-append f c (d ++ e) ∙ ap (λ l. map f c ++ l) (map-append f d e)))

-- neither claim is false
pub record OpenClaims (c : InsideLetter) : Type 0 where
  pub uncased : IsUncased c.t
  pub before : IsOpen false (truth_at (view_in c).columns (source (position_here c.r) (λ x. x)) (root_of c.g c.w) c.t)
  pub after : IsOpen true (truth_at (view_in c).columns (target (inside_to c.r c.written) (after_column 0 (length (frame_in c)) c.written)) (root_of c.g c.w) c.t)

abbrev pub source_rows : InsideLetter → List LinearRow
source_rows c = map tightened (rows_in (said (λ x. x) (predicate_at c.g c.w c.t (position_here c.r))))

abbrev pub target_rows : InsideLetter → List LinearRow
target_rows c = map tightened (rows_in (denied (after_column 0 (length (frame_in c)) c.written) (predicate_at c.g c.w c.t (inside_to c.r c.written))))

abbrev pub source_leaves : InsideLetter → List ℕ
source_leaves c = (exposed (view_in c).columns (source (position_here c.r) (λ x. x)) 0 (root_of c.g c.w) c.t).leaves

abbrev pub target_leaves : InsideLetter → List ℕ
target_leaves c = (exposed (view_in c).columns (target (inside_to c.r c.written) (after_column 0 (length (frame_in c)) c.written)) 0 (root_of c.g c.w) c.t).leaves

pub first_rows : (c : InsideLetter) → (first_in c).rows ≡ source_rows c ++ (map tightened c.rows ++ (target_rows c ++ (map tightened (bounds 0 (types_of (frame_in c))) ++ map tightened (bounds_on c))))
first_rows c =
    let from = predicate_at c.g c.w c.t (position_here c.r) in
    let to = predicate_at c.g c.w c.t (inside_to c.r c.written) in
    ap (λ (s : PlainSystem). map tightened (rows_in s)) (system_is c.g c.globals c.w c.t c.r c.a c.rest c.q c.written c.helpers c.rows c.at) ∙
    ap (map tightened) (inside_system_rows (frame_in c) c.written c.rows from to) ∙
    five_mapped tightened (rows_in (said (λ x. x) from)) c.rows (rows_in (denied (after_column 0 (length (frame_in c)) c.written) to)) (bounds 0 (types_of (frame_in c))) (bounds_on c)

pub first_roles : (c : InsideLetter) → (first_in c).roles ≡
    atom_roles (is_used (view_in c) 0) 0 (source_leaves c) ++ (branch_rows (length (front_in c)) (length (map tightened c.rows)) ++ (atom_roles (is_used (view_in c) 1) 1 (target_leaves c) ++
    (before_bounds (suc c.r.letters) (frame_in c) ++ branch_rows (length (front_in c) + length (map tightened c.rows)) (length (map tightened (bounds_on c))))))
first_roles c =
    let a : List Role = atom_roles (is_used (view_in c) 0) 0 (source_leaves c) in
    let d : List Role = atom_roles (is_used (view_in c) 1) 1 (target_leaves c) in
    let e : List Role = before_bounds (suc c.r.letters) (frame_in c) in
    let rows : c.r.rows ≡ length (front_in c) = sym c.at.along.read.row_count ∙ sym (length-map c.at.along.read.front tightened) in
    let own : length c.rows ≡ length (map tightened c.rows) = sym (length-map c.rows tightened) in
    let new : length (bounds 0 (types_at (frame_in c) c.written)) ≡ length (map tightened (bounds_on c)) =
    sym (bounds_counted (length (frame_in c)) 0 (types_at (frame_in c) c.written)) ∙ sym (length-map (bounds_on c) tightened) in
    five_joined a (branch_rows c.r.rows (length c.rows)) d e (branch_rows (c.r.rows + length c.rows) (length (bounds 0 (types_at (frame_in c) c.written)))) ∙
    ap (λ (k : ℕ). a ++ (branch_rows k (length c.rows) ++ (d ++ (e ++ branch_rows (k + length c.rows) (length (bounds 0 (types_at (frame_in c) c.written))))))) rows ∙
    ap (λ (k : ℕ). a ++ (branch_rows (length (front_in c)) k ++ (d ++ (e ++ branch_rows (length (front_in c) + k) (length (bounds 0 (types_at (frame_in c) c.written))))))) own ∙
    ap (λ (k : ℕ). a ++ (branch_rows (length (front_in c)) (length (map tightened c.rows)) ++ (d ++ (e ++ branch_rows (length (front_in c) + length (map tightened c.rows)) k)))) new

-- the numbers of the system's rows fit
pub record RowsFit (c : InsideLetter) : Type 0 where
  pub own : AllByRecursion IsRow c.rows
  pub frame : AllByRecursion IsRow (bounds 0 (types_of (frame_in c)))
  pub new : AllByRecursion IsRow (bounds_on c)

pub rows_fit_in : (c : InsideLetter) → PlainFits (system_of (alphabet_of c.g) (step_in c).triple) → RowsFit c
rows_fit_in c f =
    let from = predicate_at c.g c.w c.t (position_here c.r) in
    let to = predicate_at c.g c.w c.t (inside_to c.r c.written) in
    let e = ap rows_in (system_is c.g c.globals c.w c.t c.r c.a c.rest c.q c.written c.helpers c.rows c.at) ∙ inside_system_rows (frame_in c) c.written c.rows from to in
    let all = subst (AllByRecursion IsRow) e (rows_fit (system_of (alphabet_of c.g) (step_in c).triple) f) in
    let to_rows : List LinearRow = rows_in (denied (after_column 0 (length (frame_in c)) c.written) to) in
    let one = all_parted IsRow (rows_in (said (λ x. x) from)) (c.rows ++ (to_rows ++ (bounds 0 (types_of (frame_in c)) ++ bounds_on c))) all in
    let two = all_parted IsRow c.rows (to_rows ++ (bounds 0 (types_of (frame_in c)) ++ bounds_on c)) one.1 in
    let three = all_parted IsRow to_rows (bounds 0 (types_of (frame_in c)) ++ bounds_on c) two.1 in
    let four = all_parted IsRow (bounds 0 (types_of (frame_in c))) (bounds_on c) three.1 in
    record { own = two.0; frame = four.0; new = four.1 }

pub own_below : (c : InsideLetter) → AllByRecursion (λ r. IsBelow (length (names_in c)) r.terms) c.rows
own_below c =
    let n = names_count c in
    let l = long_in c in
    subst (λ (k : ℕ). AllByRecursion (λ r. IsBelow k r.terms) c.rows) (let e : inside_width (frame_in c) c.written c.helpers ≡ length (names_in c) = omega (arith, n, l) in e) c.at.acted.within

pub new_below : (c : InsideLetter) → AllByRecursion (λ r. IsBelow (length (names_in c)) r.terms) (bounds_on c)
new_below c =
    let n = names_count c in
    let l = long_in c in
    let m = length_at c c.written in
    bounds_below (length (names_in c)) (length (frame_in c)) (types_at (frame_in c) c.written) (omega (arith, n, l, m))

pub names_apart : (c : InsideLetter) → DiffersBelow (length (names_in c)) (slice_index (names_in c))
names_apart c =
    subst (λ (n : ℕ). DiffersBelow n (slice_index (names_in c))) (sym (names_count c)) (names_differ c.r.stage.here c.r.stage.made (count_in c) c.at.versions.differ c.at.versions.below)

-- ---- what is added

rows_pass : (c : InsideLetter) (rows : List LinearRow) → AllPairs (λ r s. is_own (view_in c) s ≡ true) rows (repeated (2 * suc c.r.letters) (length rows))
rows_pass c [] = tt
rows_pass c (r ∷ rows) = (own_here c (2 * suc c.r.letters) (omega arith) (omega arith), rows_pass c rows)

early_own : (c : InsideLetter) → 0 < c.r.letters → AllByRecursion (λ s. is_own (view_in c) s ≡ false) c.at.along.read.early
early_own c l = all_true (IsEarly c.r.letters) (λ s. is_own (view_in c) s ≡ false) (λ s e. own_low c s (by_either s e)) c.at.along.read.early c.at.along.read.early_within
  where
    by_either : (s : ℕ) → IsEarly c.r.letters s → s < suc (suc (2 * c.r.letters))
    by_either s (two, inl e) = omega (arith, l, e)
    by_either s (two, inr e) = omega (arith, l, e)

-- each row of the system is so related to its row in the word
pub record SameRows (c : InsideLetter) (P : LinearRow → LinearRow → Type 0) : Type 0 where
  pub own : AllPairs P (map tightened c.rows) (own_block c)
  pub new : AllPairs P (map tightened (bounds_on c)) (new_block c)
  pub frame : c.r ≡ first_reading c.g → frame_in c ≡ start_frame c.g → AllPairs P (map tightened (bounds 0 (types_of (frame_in c)))) (front_in c)

front_same : {X : Type 0} (xs ys us vs : List X) → xs ++ ys ≡ us ++ vs → length xs ≡ length us → xs ≡ us
front_same [] ys [] vs e l = refl
front_same [] ys (u ∷ us) vs e l = absurd (omega (arith, l))
front_same (x ∷ xs) ys [] vs e l = absurd (omega (arith, l))
front_same (x ∷ xs) ys (u ∷ us) vs e l = let q : x ≡ u = cc in let h : xs ++ ys ≡ us ++ vs = cc in let r : xs ≡ us = front_same xs ys us vs h (omega (arith, l)) in cc

-- before the first letter there are the bounds of the start
front_first : (c : InsideLetter) → c.r ≡ first_reading c.g → c.at.along.read.front ≡ bounds 0 (types_of (start_frame c.g))
front_first c e =
    sym (front_same (bounds 0 (types_of (start_frame c.g))) (path_along (alphabet_of c.g) 1 (first_stage (start_frame c.g)) c.w).rows c.at.along.read.front
    (path_along (alphabet_of c.g) (suc c.r.letters) c.r.stage (c.a ∷ c.rest)).rows c.at.along.read.rows
    (sym (c.at.along.read.row_count ∙ ap (λ (x : Reading). x.rows) e)))

length_types : (frame : Columns) → length (types_of frame) ≡ length frame
length_types [] = refl
length_types (d ∷ frame) = ap suc (length_types frame)

frame_below : (c : InsideLetter) → AllByRecursion (λ r. IsBelow (length (names_in c)) r.terms) (bounds 0 (types_of (frame_in c)))
frame_below c =
    let n = names_count c in
    let l = long_in c in
    let m = length_types (frame_in c) in
    bounds_below (length (names_in c)) 0 (types_of (frame_in c)) (omega (arith, n, l, m))

-- what holds of all rows that are over the system's columns and of the same rows over their versions
pub same_rows : (c : InsideLetter) (P : LinearRow → LinearRow → Type 0) → RowsFit c →
    ((rows : List LinearRow) → AllByRecursion IsRow rows → AllByRecursion (λ r. IsBelow (length (names_in c)) r.terms) rows →
    AllPairs P (map tightened rows) (map tightened (map (renamed (slice_index (names_in c))) rows))) → SameRows c P
same_rows c P fits f = record {
  own = f c.rows fits.own (own_below c);
  new = f (bounds_on c) fits.new (new_below c);
  frame = λ e q. subst (AllPairs P (map tightened (bounds 0 (types_of (frame_in c))))) (ap (map tightened) (front_is e q)) (f (bounds 0 (types_of (frame_in c))) fits.frame (frame_below c));
}
  where
    front_is : c.r ≡ first_reading c.g → frame_in c ≡ start_frame c.g → map (renamed (slice_index (names_in c))) (bounds 0 (types_of (frame_in c))) ≡ c.at.along.read.front
    front_is e q =
        bounds_renamed (slice_index (names_in c)) 0 0 (types_of (frame_in c))
        (λ i l. (name_first c e (0 + i) (let n = names_count c in let long = long_in c in let m = length_types (frame_in c) in omega (arith, l, n, long, m))).0) ∙
        ap (λ (x : Columns). bounds 0 (types_of x)) q ∙ sym (front_first c e)

branch_counted : (k n : ℕ) → length (branch_rows k n) ≡ n
branch_counted k zero = refl
branch_counted k (suc n) = ap suc (branch_counted (suc k) n)

spares_counted : (k n : ℕ) → length (map (λ r. spare) (columns_from k n)) ≡ n
spares_counted k zero = refl
spares_counted k (suc n) = ap suc (spares_counted (suc k) n)

pairs_of_second : {X : Type 0} (P : ℕ → Type 0) (xs : List X) (ss : List ℕ) → length ss ≡ length xs → AllByRecursion P ss → AllPairs (λ x s. P s) xs ss
pairs_of_second P [] [] l h = tt
pairs_of_second P [] (s ∷ ss) l h = absurd (omega (arith, l))
pairs_of_second P (x ∷ xs) [] l h = absurd (omega (arith, l))
pairs_of_second P (x ∷ xs) (s ∷ ss) l h = (h.0, pairs_of_second P xs ss (omega (arith, l)) h.1)

-- of the first letter all rows of the start are added
early_pass : (c : InsideLetter) → c.r ≡ first_reading c.g → AllPairs (λ r s. is_own (view_in c) s ≡ true) (front_in c) c.at.along.read.early
early_pass c e =
    pairs_of_second (λ s. is_own (view_in c) s ≡ true) (front_in c) c.at.along.read.early (early_front c)
    (all_true (IsEarly c.r.letters) (λ s. is_own (view_in c) s ≡ true) (λ s h. by_either s h) c.at.along.read.early c.at.along.read.early_within)
  where
    by_either : (s : ℕ) → IsEarly c.r.letters s → is_own (view_in c) s ≡ true
    by_either s (two, inl q) = let z : c.r.letters ≡ 0 = ap (λ (x : Reading). x.letters) e in own_here c s (omega (arith, z, q)) (omega (arith, z, q))
    by_either s (two, inr q) = let z : c.r.letters ≡ 0 = ap (λ (x : Reading). x.letters) e in absurd (omega (arith, z, q, two))

frame_added : (c : InsideLetter) (val : Role → ℤ) (number other : LinearRow → ℤ) → SameRows c (λ r s. number r ≡ other s) →
    (length (before_bounds (suc c.r.letters) (frame_in c)) ≡ length (map tightened (bounds 0 (types_of (frame_in c))))) ×
    (others val number (before_bounds (suc c.r.letters) (frame_in c)) (map tightened (bounds 0 (types_of (frame_in c)))) ≡ passing (is_own (view_in c)) (λ j. val (branch_row j)) other 0 (front_in c) c.at.along.read.early)
frame_added c val number other same = by_begun c.at.begun
  where
    count : length (map tightened (bounds 0 (types_of (frame_in c)))) ≡ bounds_in (frame_in c)
    count = length-map (bounds 0 (types_of (frame_in c))) tightened ∙ bounds_counted 0 0 (types_of (frame_in c))

    by_begun : ((c.r ≡ first_reading c.g) × (frame_in c ≡ start_frame c.g)) ⊎ (0 < c.r.letters) →
        (length (before_bounds (suc c.r.letters) (frame_in c)) ≡ length (map tightened (bounds 0 (types_of (frame_in c))))) ×
        (others val number (before_bounds (suc c.r.letters) (frame_in c)) (map tightened (bounds 0 (types_of (frame_in c)))) ≡ passing (is_own (view_in c)) (λ j. val (branch_row j)) other 0 (front_in c) c.at.along.read.early)
    by_begun (inl e) =
        let letters : suc c.r.letters ≡ 1 = ap (λ (x : Reading). suc x.letters) e.0 in
        let position_here : before_bounds (suc c.r.letters) (frame_in c) ≡ branch_rows 0 (bounds_in (frame_in c)) = ap (λ (z : Bool). if z then branch_rows 0 (bounds_in (frame_in c)) else spares (bounds_in (frame_in c))) (eq-eqb (suc c.r.letters) 1 letters) in
        let whole : before_bounds (suc c.r.letters) (frame_in c) ≡ branch_rows 0 (length (map tightened (bounds 0 (types_of (frame_in c))))) = position_here ∙ ap (branch_rows 0) (sym count) in (
          ap (λ (l : List Role). length l) whole ∙ branch_counted 0 (length (map tightened (bounds 0 (types_of (frame_in c))))),
          ap (λ (l : List Role). others val number l (map tightened (bounds 0 (types_of (frame_in c))))) whole ∙
              rows_add (view_in c) val number other 0 (map tightened (bounds 0 (types_of (frame_in c)))) (front_in c) c.at.along.read.early (same.frame e.0 e.1) (early_pass c e.0),
        )
    by_begun (inr l) =
        let position_here : before_bounds (suc c.r.letters) (frame_in c) ≡ spares (bounds_in (frame_in c)) =
        ap (λ (z : Bool). if z then branch_rows 0 (bounds_in (frame_in c)) else spares (bounds_in (frame_in c))) (ne_eqb (suc c.r.letters) 1 (λ (e : suc c.r.letters ≡ 1). omega (arith, l, e))) in (
          ap (λ (l : List Role). length l) position_here ∙ spares_counted 0 (bounds_in (frame_in c)) ∙ sym count,
          ap (λ (l : List Role). others val number l (map tightened (bounds 0 (types_of (frame_in c))))) position_here ∙ spares_add val number 0 (bounds_in (frame_in c)) (map tightened (bounds 0 (types_of (frame_in c)))) ∙
              sym (none_passes (is_own (view_in c)) (λ j. val (branch_row j)) other 0 (front_in c) c.at.along.read.early (early_own c l)),
        )

claim_counted : (c : InsideLetter) (i : ℕ) (d : Claim) → IsUncased c.t → slice_get (view_in c).claims i ≡ Some d → IsOpen d.is_denied (truth_at (view_in c).columns d (root_of c.g c.w) c.t) →
    length (atom_roles (is_used (view_in c) i) i (exposed (view_in c).columns d 0 (root_of c.g c.w) c.t).leaves) ≡ length (map tightened (rows_in (said_at (view_in c).columns d (root_in c))))
claim_counted c i d un e is_open =
    pairs_counted (RoleFits (view_in c) (root_in c) (root_of c.g c.w).rows) (atom_roles (is_used (view_in c) i) i (exposed (view_in c).columns d 0 (root_of c.g c.w) c.t).leaves)
    (map tightened (rows_in (said_at (view_in c).columns d (root_in c))))
    (claim_pairs (view_in c) (root_in c) un (uncased_stands (view_in c).columns 0 (root_of c.g c.w) c.t un) (root_of c.g c.w).rows i d e is_open)

-- what the rows of the system add that are no atoms
pub rows_added : (c : InsideLetter) → OpenClaims c → (val : Role → ℤ) (number other : LinearRow → ℤ) → SameRows c (λ r s. number r ≡ other s) →
    others val number (first_in c).roles (first_in c).rows ≡
    passing (is_own (view_in c)) (λ j. val (branch_row j)) other 0 (front_in c) c.at.along.read.early +ℤ
    passing (is_own (view_in c)) (λ j. val (branch_row j)) other (length (front_in c)) (own_block c ++ new_block c) (stamps_now c)
rows_added c o val number other same =
    let f = frame_added c val number other same in
    inside_rows_add (view_in c) val number other (first_in c).roles (first_in c).rows (front_in c) (own_block c ++ new_block c) c.at.along.read.early (stamps_now c) (record {
      source_used = is_used (view_in c) 0;
      source = source_leaves c;
      source_rows = source_rows c;
      own = map tightened c.rows;
      target_used = is_used (view_in c) 1;
      target = target_leaves c;
      target_rows = target_rows c;
      frame_roles = before_bounds (suc c.r.letters) (frame_in c);
      frame_rows = map tightened (bounds 0 (types_of (frame_in c)));
      new = map tightened (bounds_on c);
      roles_are = first_roles c;
      rows_are = first_rows c;
      source_count = claim_counted c 0 (source (position_here c.r) (λ x. x)) o.uncased refl o.before;
      target_count = claim_counted c 1 (target (inside_to c.r c.written) (after_column 0 (length (frame_in c)) c.written)) o.uncased refl o.after;
      frame_count = f.0;
      frame_adds = f.1;
      own_block = own_block c;
      new_block = new_block c;
      own_now = repeated (2 * suc c.r.letters) (length (own_block c));
      new_now = repeated (2 * suc c.r.letters) (length (new_block c));
      block_is = refl;
      now_is = refl;
      own_same = same.own;
      new_same = same.new;
      own_passes = rows_pass c (own_block c);
      new_passes = rows_pass c (new_block c);
    })

-- ---- sums

-- of a branch that a leaf is on
all_stamps : (P : ℕ → Type 0) → ((s : ℕ) → P s) → (ss : List ℕ) → AllByRecursion P ss
all_stamps P f [] = tt
all_stamps P f (s ∷ ss) = (f s, all_stamps P f ss)

pub leaf_counted : (c : InsideLetter) (more : List LinearRow) (late : List ℕ) (n : ℕ) (b : Branch) (parts : List (ℕ × ℤ)) → LeafFacts (view_in c) (root_in c) more late n b parts → length b.stamps ≡ length b.rows
leaf_counted c more late n b parts f =
    let x = ap (λ (l : List ℕ). length l) f.stamps ∙ length-append (root_of c.g c.w).stamps late in
    let y = ap (λ (l : List LinearRow). length l) f.rows ∙ length-append (root_of c.g c.w).rows more in
    let z = root_counted c in
    let m = pairs_counted (IsCutAt (view_in c).columns) more late f.cuts in
    omega (arith, x, y, z, m)

-- the rows and own cuts add what the word's sum has more after the letter
pub sums_differ : (c : InsideLetter) → OpenClaims c → (more : List LinearRow) (late : List ℕ) (n : ℕ) (b : Branch) (parts : List (ℕ × ℤ)) → LeafFacts (view_in c) (root_in c) more late n b parts →
    (number other : LinearRow → ℤ) → SameRows c (λ r s. number r ≡ other s) →
    own_sum (view_in c) (multiplier (view_in c) n b parts) number (length (root_of c.g c.w).rows) more late ≡
    passing (is_own (view_in c)) (λ j. coefficient j parts) other (length (root_of c.g c.w).rows) more late →
    others (multiplier (view_in c) n b parts) number (first_in c).roles (first_in c).rows +ℤ
    own_sum (view_in c) (multiplier (view_in c) n b parts) number (length (root_of c.g c.w).rows) more late ≡
    sum_upto b parts other (suc (2 * suc c.r.letters)) -ℤ sum_upto b parts other (suc (2 * c.r.letters))
sums_differ c o more late n b parts f number other same cuts =
    let a = rows_added c o (multiplier (view_in c) n b parts) number other same in
    let d = own_parts (view_in c) (root_of c.g c.w) b (front_in c) (own_block c ++ new_block c) c.at.along.read.early (stamps_now c) more late (parted_in c more late n b parts f)
    (λ j. coefficient j parts) other in
    let e = window_sum (view_in c) b parts other (suc (2 * c.r.letters)) (suc (2 * suc c.r.letters)) (omega arith) (leaf_counted c more late n b parts f) f.contradicts.each
    (all_stamps (λ s. (s < suc (suc (2 * c.r.letters)) → is_own (view_in c) s ≡ false) × (suc (2 * c.r.letters) < s → s < suc (suc (2 * suc c.r.letters)) → is_own (view_in c) s ≡ true) ×
    (suc (2 * suc c.r.letters) < s → is_own (view_in c) s ≡ false)) (λ s. (own_low c s, own_here c s, own_high c s)) b.stamps) in
    omega (arith, ints, a, cuts, d, e)
