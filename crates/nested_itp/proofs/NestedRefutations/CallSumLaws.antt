-- What the rows of a call's system add, part by part, and the rows of the word in parts.
use Rattle.std.proofs.Common.{◌≡◌, ◌∙◌, ℕ, zero, suc, ◌+◌, ◌*◌, ◌≤◌, ℤ, ◌+ℤ◌, Bool, true, false, List, [], ◌∷◌, ◌++◌, length, map, sym, ap, arith, append_assoc, length-append, Option}
use Rattle.std.specs.Prelude.{nat_eq, slice_index, if◌then◌else◌}
use Rattle.std.specs.List.{AllByRecursion}
use Rattle.std.proofs.lemmas.Int.{ints}
use Rattle.std.proofs.lemmas.List.{map-append, length-map}
use Rattle.lin_rows.specs.Rows.{LinearRow}
use Rattle.lin_rows.specs.Tightening.{tightened}
use Rattle.letter_acts.specs.Frames.{globals_of, variables_of, olds_of}
use Rattle.letter_acts.specs.Acts.{PlainAct, act_of}
use Rattle.letter_acts.specs.Invariant.{alphabet_of}
use Rattle.path_rows.specs.Versions.{Part, local_columns, old_part, entry_rows, part_of}
use Rattle.letter_acts.specs.FrameRows.Rows.{columns_from, renamed, bounds, types_of, equal_row}
use Rattle.path_rows.specs.Versions as versions
use Rattle.path_rows.specs.Paths.{repeated, path_along}
use Rattle.triple_rows.specs.Systems.{PlainSystem, said, denied}
use Rattle.nested_itp.specs.NestedPredicates.Stamps.{row_stamps, stamps_along}
use Rattle.nested_itp.specs.NestedPredicates.Positions.{has_return}
use Rattle.nested_itp.specs.NestedPredicates.Sums.{Branch, root_of}
use Rattle.nested_itp.specs.NestedPredicates.Joins.{predicate_at}
use Rattle.nested_itp.proofs.NestedPredicates.StampLaws.{root_stamped}
use Rattle.nested_itp.specs.NestedRefutations.Refutations.{Claim, exposed, rows_in, Role, spare, branch_row, target_tie, opposite_tie, atom_roles, is_used}
use Rattle.nested_itp.specs.NestedRefutations.Numbers.{branch_rows, spares, before_bounds, callee_bounds, bounds_in, position_here, source, target}
use Rattle.nested_itp.proofs.NestedRefutations.RowsLaws.{pairs_counted}
use Rattle.nested_itp.proofs.NestedRefutations.WayLaws.{others, others_joined, others_atoms, is_own}
use Rattle.nested_itp.proofs.NestedRefutations.WindowLaws.{passing, passing_joined}
use Rattle.nested_itp.proofs.NestedRefutations.OwnLaws.{IsCutAt, Parted}
use Rattle.nested_itp.proofs.NestedRefutations.ReadLaws.{stamps_from}
use Rattle.nested_itp.proofs.NestedRefutations.VersionLaws.{columns_count}
use Rattle.nested_itp.proofs.NestedRefutations.MovingLaws.{bounds_counted}
use Rattle.nested_itp.proofs.NestedRefutations.LeavesLaws.{LeafFacts}
use Rattle.nested_itp.proofs.NestedRefutations.TieLaws.{tie_rows, ties_counted}
use Rattle.nested_itp.proofs.NestedRefutations.InsideColumnLaws.{length-repeated}
use Rattle.nested_itp.proofs.NestedRefutations.CallAtLaws.{call_to, call_part_is, call_system_is, call_system_rows}
use Rattle.nested_itp.proofs.NestedRefutations.CallColumnLaws.{CallLetter, caller_in, callee_in, locals, made, call_names, call_view, call_root, call_first}
use Rattle.nested_itp.proofs.NestedRefutations.CallCutLaws.{call_own}
use Rattle.nested_itp.proofs.NestedRefutations.CallRowLaws.{spec_names, own_rows_are, named_tie, entries_are, old_bounds, local_bounds, old_bounds_are, local_bounds_are}

-- ---- the rows of the letter in the word

abbrev pub own_block : CallLetter → List LinearRow
own_block c = map tightened (map (renamed (slice_index (call_names c))) c.rows)

abbrev pub entry_block : CallLetter → List LinearRow
entry_block c = map tightened (map (named_tie c) (olds_of (callee_in c)))

abbrev pub local_block : CallLetter → List LinearRow
local_block c = map tightened (map (renamed (slice_index (call_names c))) (local_bounds c))

abbrev pub old_block : CallLetter → List LinearRow
old_block c = map tightened (map (renamed (slice_index (call_names c))) (old_bounds c))

abbrev pub call_block : CallLetter → List LinearRow
call_block c = own_block c ++ (entry_block c ++ (local_block c ++ old_block c))

-- so many stamps of what the call makes for its callee
abbrev pub callee_now : CallLetter → List LinearRow → List ℕ
callee_now c rows = repeated (suc (2 * suc c.r.letters)) (length rows)

abbrev pub own_now : CallLetter → List ℕ
own_now c = repeated (2 * suc c.r.letters) (length (own_block c))

abbrev pub call_now : CallLetter → List ℕ
call_now c = own_now c ++ (callee_now c (entry_block c) ++ (callee_now c (local_block c) ++ callee_now c (old_block c)))

abbrev pub front_of : CallLetter → List LinearRow
front_of c = map tightened c.at.along.read.front

block_is : (c : CallLetter) → map tightened (versions.part_rows (part_of (alphabet_of c.g) c.a c.r.stage)) ≡ call_block c
block_is c =
    let own : List LinearRow = map (renamed (slice_index (spec_names c))) c.rows in
    let entries : List LinearRow = entry_rows (made c + locals c + c.helpers) (map (slice_index c.r.stage.here) (variables_of (callee_in c))) in
    let bl : List LinearRow = bounds (made c) (types_of (local_columns (callee_in c))) in
    let bo : List LinearRow = bounds (made c + locals c + c.helpers) (types_of (old_part (callee_in c))) in
    ap (λ (x : Part). map tightened (versions.part_rows x)) (call_part_is c.g c.globals c.w c.r c.a c.rest c.caller c.callee c.helpers c.rows c.at) ∙
    map-append tightened own (entries ++ (bl ++ bo)) ∙
    ap (λ (l : List LinearRow). map tightened l ++ map tightened (entries ++ (bl ++ bo))) (own_rows_are c) ∙
    ap (λ (l : List LinearRow). own_block c ++ l)
    (map-append tightened entries (bl ++ bo) ∙ ap (λ (l : List LinearRow). map tightened l ++ map tightened (bl ++ bo)) (entries_are c) ∙
    ap (λ (l : List LinearRow). entry_block c ++ l)
    (map-append tightened bl bo ∙ ap (λ (l : List LinearRow). map tightened l ++ map tightened bo) (sym (local_bounds_are c)) ∙ ap (λ (l : List LinearRow). local_block c ++ map tightened l) (sym (old_bounds_are c))))

repeated_parts : (x m n : ℕ) → repeated x (m + n) ≡ repeated x m ++ repeated x n
repeated_parts x zero n = ap (repeated x) (let e : 0 + n ≡ n = omega arith in e)
repeated_parts x (suc m) n = ap (repeated x) (let e : suc m + n ≡ suc (m + n) = omega arith in e) ∙ ap (λ (l : List ℕ). x ∷ l) (repeated_parts x m n)

now_is : (c : CallLetter) → row_stamps (suc c.r.letters) (act_of (alphabet_of c.g) c.a) (part_of (alphabet_of c.g) c.a c.r.stage) ≡ call_now c
now_is c =
    let k : ℕ = suc c.r.letters in
    let part : Part = part_of (alphabet_of c.g) c.a c.r.stage in
    let entries : List LinearRow = entry_rows (made c + locals c + c.helpers) (map (slice_index c.r.stage.here) (variables_of (callee_in c))) in
    let bl : List LinearRow = bounds (made c) (types_of (local_columns (callee_in c))) in
    let bo : List LinearRow = bounds (made c + locals c + c.helpers) (types_of (old_part (callee_in c))) in
    let own : length (map (renamed (slice_index (spec_names c))) c.rows) ≡ length (own_block c) =
    ap (λ (l : List LinearRow). length l) (own_rows_are c) ∙ sym (length-map (map (renamed (slice_index (call_names c))) c.rows) tightened) in
    let a : length entries ≡ length (entry_block c) = ap (λ (l : List LinearRow). length l) (entries_are c) ∙ sym (length-map (map (named_tie c) (olds_of (callee_in c))) tightened) in
    let b : length bl ≡ length (local_block c) = ap (λ (l : List LinearRow). length l) (sym (local_bounds_are c)) ∙ sym (length-map (map (renamed (slice_index (call_names c))) (local_bounds c)) tightened) in
    let d : length bo ≡ length (old_block c) = ap (λ (l : List LinearRow). length l) (sym (old_bounds_are c)) ∙ sym (length-map (map (renamed (slice_index (call_names c))) (old_bounds c)) tightened) in
    let e = length-append entries (bl ++ bo) in
    let f = length-append bl bo in
    let rest : length (entries ++ (bl ++ bo)) ≡ length (entry_block c) + (length (local_block c) + length (old_block c)) = omega (arith, a, b, d, e, f) in
    ap (λ (o : Option PlainAct). row_stamps k o part) c.at.act_is ∙
    ap (λ (x : Part). repeated (2 * k) (length x.own) ++ repeated (suc (2 * k)) (length (x.entries ++ x.bounds))) (call_part_is c.g c.globals c.w c.r c.a c.rest c.caller c.callee c.helpers c.rows c.at) ∙
    ap (λ (n : ℕ). repeated (2 * k) n ++ repeated (suc (2 * k)) (length (entries ++ (bl ++ bo)))) own ∙
    ap (λ (n : ℕ). own_now c ++ repeated (suc (2 * k)) n) rest ∙
    ap (λ (l : List ℕ). own_now c ++ l) (repeated_parts (suc (2 * k)) (length (entry_block c)) (length (local_block c) + length (old_block c)) ∙
    ap (λ (l : List ℕ). callee_now c (entry_block c) ++ l) (repeated_parts (suc (2 * k)) (length (local_block c)) (length (old_block c))))

-- ---- the rows of the branch in parts

unfoldable pub later_rows : CallLetter → List LinearRow
later_rows c = (path_along (alphabet_of c.g) (suc (suc c.r.letters)) (part_of (alphabet_of c.g) c.a c.r.stage).after c.rest).rows

unfoldable pub later_stamps : CallLetter → List ℕ
later_stamps c = (stamps_along (alphabet_of c.g) (suc (suc c.r.letters)) (part_of (alphabet_of c.g) c.a c.r.stage).after c.rest).rows

pub call_root_rows : (c : CallLetter) → (root_of c.g c.w).rows ≡ front_of c ++ (call_block c ++ map tightened (later_rows c))
unfolding later_rows
call_root_rows c =
    let part : Part = part_of (alphabet_of c.g) c.a c.r.stage in
    ap (map tightened) c.at.along.read.rows ∙ map-append tightened c.at.along.read.front (versions.part_rows part ++ later_rows c) ∙
    ap (λ (l : List LinearRow). front_of c ++ l) (map-append tightened (versions.part_rows part) (later_rows c) ∙ ap (λ (l : List LinearRow). l ++ map tightened (later_rows c)) (block_is c))

pub call_root_stamps : (c : CallLetter) → (root_of c.g c.w).stamps ≡ c.at.along.read.early ++ (call_now c ++ later_stamps c)
unfolding later_stamps
call_root_stamps c = c.at.along.read.stamps ∙ ap (λ (l : List ℕ). c.at.along.read.early ++ (l ++ later_stamps c)) (now_is c)

pub call_later_within : (c : CallLetter) → AllByRecursion (λ s. 2 * suc (suc c.r.letters) ≤ s) (later_stamps c)
unfolding later_stamps
call_later_within c = (stamps_from (alphabet_of c.g) (suc (suc c.r.letters)) (part_of (alphabet_of c.g) c.a c.r.stage).after c.rest).0

pub call_root_counted : (c : CallLetter) → length (root_of c.g c.w).stamps ≡ length (root_of c.g c.w).rows
call_root_counted c = (root_stamped (2 * (2 + length c.w)) c.g c.w (omega arith) (omega arith)).as_many

pub call_early_front : (c : CallLetter) → length c.at.along.read.early ≡ length (front_of c)
call_early_front c = c.at.along.read.early_count ∙ sym (length-map c.at.along.read.front tightened)

pub call_now_counted : (c : CallLetter) → length (call_now c) ≡ length (call_block c)
call_now_counted c =
    let k : ℕ = suc c.r.letters in
    let a = length-append (own_now c) (callee_now c (entry_block c) ++ (callee_now c (local_block c) ++ callee_now c (old_block c))) in
    let b = length-append (callee_now c (entry_block c)) (callee_now c (local_block c) ++ callee_now c (old_block c)) in
    let d = length-append (callee_now c (local_block c)) (callee_now c (old_block c)) in
    let e = length-append (own_block c) (entry_block c ++ (local_block c ++ old_block c)) in
    let f = length-append (entry_block c) (local_block c ++ old_block c) in
    let h = length-append (local_block c) (old_block c) in
    let m = length-repeated (2 * k) (length (own_block c)) in
    let n = length-repeated (suc (2 * k)) (length (entry_block c)) in
    let p = length-repeated (suc (2 * k)) (length (local_block c)) in
    let q = length-repeated (suc (2 * k)) (length (old_block c)) in
    omega (arith, a, b, d, e, f, h, m, n, p, q)

pub call_later_counted : (c : CallLetter) → length (later_stamps c) ≡ length (map tightened (later_rows c))
call_later_counted c =
    let a = ap (λ (l : List ℕ). length l) (call_root_stamps c) ∙ length-append c.at.along.read.early (call_now c ++ later_stamps c) in
    let b = length-append (call_now c) (later_stamps c) in
    let d = ap (λ (l : List LinearRow). length l) (call_root_rows c) ∙ length-append (front_of c) (call_block c ++ map tightened (later_rows c)) in
    let e = length-append (call_block c) (map tightened (later_rows c)) in
    let f = call_early_front c in
    let h = call_now_counted c in
    let k = call_root_counted c in
    omega (arith, a, b, d, e, f, h, k)

all_true : (P : ℕ → Type 0) (Q : ℕ → Type 0) → ((s : ℕ) → P s → Q s) → (ss : List ℕ) → AllByRecursion P ss → AllByRecursion Q ss
all_true P Q f [] h = tt
all_true P Q f (s ∷ ss) h = (f s h.0, all_true P Q f ss h.1)

pub call_parted : (c : CallLetter) (more : List LinearRow) (late : List ℕ) (n : ℕ) (b : Branch) (parts : List (ℕ × ℤ)) → LeafFacts (call_view c) (call_root c) more late n b parts →
    Parted (call_view c) (root_of c.g c.w) b (front_of c) (call_block c) c.at.along.read.early (call_now c) more late
call_parted c more late n b parts f = record {
  rest = map tightened (later_rows c);
  after = later_stamps c;
  rows = call_root_rows c;
  stamps = call_root_stamps c;
  early_count = call_early_front c;
  now_count = call_now_counted c;
  after_count = call_later_counted c;
  not_own = all_true (λ s. 2 * suc (suc c.r.letters) ≤ s) (λ s. is_own (call_view c) s ≡ false) (λ s l. (call_own c s).2 (omega (arith, l))) (later_stamps c) (call_later_within c);
  branch_rows = f.rows;
  branch_stamps = f.stamps;
}

pub call_leaf_counted : (c : CallLetter) (more : List LinearRow) (late : List ℕ) (n : ℕ) (b : Branch) (parts : List (ℕ × ℤ)) → LeafFacts (call_view c) (call_root c) more late n b parts → length b.stamps ≡ length b.rows
call_leaf_counted c more late n b parts f =
    let x = ap (λ (l : List ℕ). length l) f.stamps ∙ length-append (root_of c.g c.w).stamps late in
    let y = ap (λ (l : List LinearRow). length l) f.rows ∙ length-append (root_of c.g c.w).rows more in
    let z = call_root_counted c in
    let m = pairs_counted (IsCutAt (call_view c).columns) more late f.cuts in
    omega (arith, x, y, z, m)

-- the letter's rows in four parts
pub block_passes : (c : CallLetter) (times : ℕ → ℤ) (other : LinearRow → ℤ) (k : ℕ) →
    passing (is_own (call_view c)) times other k (call_block c) (call_now c) ≡
    passing (is_own (call_view c)) times other k (own_block c) (own_now c) +ℤ
    (passing (is_own (call_view c)) times other (k + length (own_block c)) (entry_block c) (callee_now c (entry_block c)) +ℤ
    (passing (is_own (call_view c)) times other (k + length (own_block c) + length (entry_block c)) (local_block c) (callee_now c (local_block c)) +ℤ
    passing (is_own (call_view c)) times other (k + length (own_block c) + length (entry_block c) + length (local_block c)) (old_block c) (callee_now c (old_block c))))
block_passes c times other k =
    let m : ℕ = suc c.r.letters in
    let a = passing_joined (is_own (call_view c)) times other k (own_block c) (own_now c) (entry_block c ++ (local_block c ++ old_block c))
    (callee_now c (entry_block c) ++ (callee_now c (local_block c) ++ callee_now c (old_block c))) (length-repeated (2 * m) (length (own_block c))) in
    let b = passing_joined (is_own (call_view c)) times other (k + length (own_block c)) (entry_block c) (callee_now c (entry_block c)) (local_block c ++ old_block c)
    (callee_now c (local_block c) ++ callee_now c (old_block c)) (length-repeated (suc (2 * m)) (length (entry_block c))) in
    let d = passing_joined (is_own (call_view c)) times other (k + length (own_block c) + length (entry_block c)) (local_block c) (callee_now c (local_block c)) (old_block c)
    (callee_now c (old_block c)) (length-repeated (suc (2 * m)) (length (local_block c))) in
    omega (arith, ints, a, b, d)

-- ---- the rows of the system in parts

abbrev pub source_rows : CallLetter → List LinearRow
source_rows c = map tightened (rows_in (said (λ x. x) (predicate_at c.g c.w c.t (position_here c.r))))

abbrev pub target_rows : CallLetter → List LinearRow
target_rows c = map tightened (rows_in (denied (λ x. length (caller_in c) + x) (predicate_at c.g c.w c.t (call_to c.g c.r c.rest c.callee c.helpers))))

abbrev pub source_claim : CallLetter → Claim
source_claim c = source (position_here c.r) (λ x. x)

abbrev pub target_claim : CallLetter → Claim
target_claim c = target (call_to c.g c.r c.rest c.callee c.helpers) (λ x. length (caller_in c) + x)

abbrev pub leaves_of : CallLetter → Claim → List ℕ
leaves_of c d = (exposed (call_view c).columns d 0 (root_of c.g c.w) c.t).leaves

-- the rows that tie the callee's globals, and its old columns, to the caller's
abbrev pub global_ties : CallLetter → List LinearRow
global_ties c = tie_rows (λ x. length (caller_in c) + x) (λ x. x) (globals_of (callee_in c))

abbrev pub old_ties : CallLetter → List LinearRow
old_ties c = tie_rows (λ o. length (caller_in c) + o.0) (λ o. o.1) (olds_of (callee_in c))

abbrev pub caller_bounds : CallLetter → List LinearRow
caller_bounds c = map tightened (bounds 0 (types_of (caller_in c)))

seven_mapped : {X Y : Type 0} (f : X → Y) (a b c d e h k : List X) →
    map f (a ++ (b ++ (c ++ (d ++ (e ++ (h ++ k)))))) ≡ map f a ++ (map f b ++ (map f c ++ (map f d ++ (map f e ++ (map f h ++ map f k)))))
seven_mapped f a b c d e h k =
    map-append f a (b ++ (c ++ (d ++ (e ++ (h ++ k))))) ∙ ap (λ l. map f a ++ l) (map-append f b (c ++ (d ++ (e ++ (h ++ k)))) ∙
    ap (λ l. map f b ++ l) (map-append f c (d ++ (e ++ (h ++ k))) ∙ ap (λ l. map f c ++ l) (map-append f d (e ++ (h ++ k)) ∙
    ap (λ l. map f d ++ l) (map-append f e (h ++ k) ∙ ap (λ l. map f e ++ l) (map-append f h k)))))

pub call_first_rows : (c : CallLetter) → (call_first c).rows ≡ source_rows c ++ (global_ties c ++ (old_ties c ++ (map tightened c.rows ++ (target_rows c ++ (caller_bounds c ++
    map tightened (bounds (length (caller_in c)) (types_of (callee_in c))))))))
call_first_rows c =
    let from = predicate_at c.g c.w c.t (position_here c.r) in
    let to = predicate_at c.g c.w c.t (call_to c.g c.r c.rest c.callee c.helpers) in
    let n : ℕ = length (caller_in c) in
    ap (λ (s : PlainSystem). map tightened (rows_in s)) (call_system_is c.g c.globals c.w c.t c.r c.a c.rest c.caller c.callee c.helpers c.rows c.at) ∙
    ap (map tightened) (call_system_rows (caller_in c) (callee_in c) c.rows from to) ∙
    seven_mapped tightened (rows_in (said (λ x. x) from)) (map (λ x. equal_row (n + x) x) (globals_of (callee_in c))) (map (λ o. equal_row (n + o.0) o.1) (olds_of (callee_in c))) c.rows
    (rows_in (denied (λ x. n + x) to)) (bounds 0 (types_of (caller_in c))) (bounds n (types_of (callee_in c)))

-- ---- their roles

abbrev pub old_tie_roles : CallLetter → List Role
old_tie_roles c = if has_return 0 c.rest then map (λ o. opposite_tie o.1) (olds_of (callee_in c)) else branch_rows (c.r.rows + length c.rows) (length (olds_of (callee_in c)))

abbrev pub own_roles : CallLetter → List Role
own_roles c = if has_return 0 c.rest then spares (length c.rows) else branch_rows c.r.rows (length c.rows)

abbrev pub caller_roles : CallLetter → List Role
caller_roles c = if has_return 0 c.rest then spares (bounds_in (caller_in c)) else before_bounds (suc c.r.letters) (caller_in c)

abbrev pub bound_roles : CallLetter → List Role
bound_roles c =
    let local = c.r.rows + length c.rows + length (old_part (callee_in c)) in
    callee_bounds local (local + bounds_in (local_columns (callee_in c))) (callee_in c)

seven_joined : {X : Type 0} (a b c d e h k : List X) → a ++ b ++ c ++ d ++ e ++ h ++ k ≡ a ++ (b ++ (c ++ (d ++ (e ++ (h ++ k)))))
seven_joined a b c d e h k =
    append_assoc (a ++ b ++ c ++ d ++ e) h k ∙ append_assoc (a ++ b ++ c ++ d) e (h ++ k) ∙ append_assoc (a ++ b ++ c) d (e ++ (h ++ k)) ∙
    append_assoc (a ++ b) c (d ++ (e ++ (h ++ k))) ∙ append_assoc a b (c ++ (d ++ (e ++ (h ++ k))))

pub call_first_roles : (c : CallLetter) → (call_first c).roles ≡
    atom_roles (is_used (call_view c) 0) 0 (leaves_of c (source_claim c)) ++ (map target_tie (globals_of (callee_in c)) ++ (old_tie_roles c ++ (own_roles c ++
    (atom_roles (is_used (call_view c) 1) 1 (leaves_of c (target_claim c)) ++ (caller_roles c ++ bound_roles c)))))
call_first_roles c =
    seven_joined (atom_roles (is_used (call_view c) 0) 0 (leaves_of c (source_claim c))) (map target_tie (globals_of (callee_in c))) (old_tie_roles c) (own_roles c)
    (atom_roles (is_used (call_view c) 1) 1 (leaves_of c (target_claim c))) (caller_roles c) (bound_roles c)

-- what each part adds
pub call_parts_add : (c : CallLetter) (val : Role → ℤ) (number : LinearRow → ℤ) →
    length (atom_roles (is_used (call_view c) 0) 0 (leaves_of c (source_claim c))) ≡ length (source_rows c) → length (atom_roles (is_used (call_view c) 1) 1 (leaves_of c (target_claim c))) ≡ length (target_rows c) →
    others val number (call_first c).roles (call_first c).rows ≡
    others val number (map target_tie (globals_of (callee_in c))) (global_ties c) +ℤ (others val number (old_tie_roles c) (old_ties c) +ℤ (others val number (own_roles c) (map tightened c.rows) +ℤ
    (others val number (caller_roles c) (caller_bounds c) +ℤ others val number (bound_roles c) (map tightened (bounds (length (caller_in c)) (types_of (callee_in c)))))))
call_parts_add c val number one five =
    let a : List Role = atom_roles (is_used (call_view c) 0) 0 (leaves_of c (source_claim c)) in
    let b : List Role = map target_tie (globals_of (callee_in c)) in
    let d : List Role = old_tie_roles c in
    let e : List Role = own_roles c in
    let f : List Role = atom_roles (is_used (call_view c) 1) 1 (leaves_of c (target_claim c)) in
    let h : List Role = caller_roles c in
    let k : List Role = bound_roles c in
    let last : List LinearRow = map tightened (bounds (length (caller_in c)) (types_of (callee_in c))) in
    let whole : others val number (call_first c).roles (call_first c).rows ≡
    others val number (a ++ (b ++ (d ++ (e ++ (f ++ (h ++ k)))))) (source_rows c ++ (global_ties c ++ (old_ties c ++ (map tightened c.rows ++ (target_rows c ++ (caller_bounds c ++ last)))))) =
    ap (λ (l : List Role). others val number l (call_first c).rows) (call_first_roles c) ∙ ap (others val number (a ++ (b ++ (d ++ (e ++ (f ++ (h ++ k))))))) (call_first_rows c) in
    let p1 = others_joined val number a (source_rows c) (b ++ (d ++ (e ++ (f ++ (h ++ k))))) (global_ties c ++ (old_ties c ++ (map tightened c.rows ++ (target_rows c ++ (caller_bounds c ++ last))))) one in
    let p2 = others_joined val number b (global_ties c) (d ++ (e ++ (f ++ (h ++ k)))) (old_ties c ++ (map tightened c.rows ++ (target_rows c ++ (caller_bounds c ++ last))))
    (ties_counted target_tie (λ x. length (caller_in c) + x) (λ x. x) (globals_of (callee_in c))) in
    let p3 = others_joined val number d (old_ties c) (e ++ (f ++ (h ++ k))) (map tightened c.rows ++ (target_rows c ++ (caller_bounds c ++ last))) (old_ties_counted (has_return 0 c.rest)) in
    let p4 = others_joined val number e (map tightened c.rows) (f ++ (h ++ k)) (target_rows c ++ (caller_bounds c ++ last)) (own_counted (has_return 0 c.rest)) in
    let p5 = others_joined val number f (target_rows c) (h ++ k) (caller_bounds c ++ last) five in
    let p6 = others_joined val number h (caller_bounds c) k last (caller_counted (has_return 0 c.rest)) in
    let z1 = others_atoms val number (is_used (call_view c) 0) 0 (leaves_of c (source_claim c)) (source_rows c) in
    let z5 = others_atoms val number (is_used (call_view c) 1) 1 (leaves_of c (target_claim c)) (target_rows c) in
    omega (arith, ints, whole, p1, p2, p3, p4, p5, p6, z1, z5)
  where
    branch_counted : (k n : ℕ) → length (branch_rows k n) ≡ n
    branch_counted k n = length-map (columns_from k n) branch_row ∙ columns_count k n

    spares_counted : (n : ℕ) → length (spares n) ≡ n
    spares_counted n = length-map (columns_from 0 n) (λ r. spare) ∙ columns_count 0 n

    old_ties_counted : (z : Bool) → length (if z then map (λ o. opposite_tie o.1) (olds_of (callee_in c)) else branch_rows (c.r.rows + length c.rows) (length (olds_of (callee_in c)))) ≡ length (old_ties c)
    old_ties_counted true = ties_counted (λ o. opposite_tie o.1) (λ o. length (caller_in c) + o.0) (λ o. o.1) (olds_of (callee_in c))
    old_ties_counted false =
        branch_counted (c.r.rows + length c.rows) (length (olds_of (callee_in c))) ∙ sym (length-map (olds_of (callee_in c)) (λ o. opposite_tie o.1)) ∙
        ties_counted (λ o. opposite_tie o.1) (λ o. length (caller_in c) + o.0) (λ o. o.1) (olds_of (callee_in c))

    own_counted : (z : Bool) → length (if z then spares (length c.rows) else branch_rows c.r.rows (length c.rows)) ≡ length (map tightened c.rows)
    own_counted true = spares_counted (length c.rows) ∙ sym (length-map c.rows tightened)
    own_counted false = branch_counted c.r.rows (length c.rows) ∙ sym (length-map c.rows tightened)

    frame_counted : bounds_in (caller_in c) ≡ length (caller_bounds c)
    frame_counted = sym (bounds_counted 0 0 (types_of (caller_in c))) ∙ sym (length-map (bounds 0 (types_of (caller_in c))) tightened)

    by_first : (z : Bool) → length (if z then branch_rows 0 (bounds_in (caller_in c)) else spares (bounds_in (caller_in c))) ≡ bounds_in (caller_in c)
    by_first true = branch_counted 0 (bounds_in (caller_in c))
    by_first false = spares_counted (bounds_in (caller_in c))

    caller_counted : (z : Bool) → length (if z then spares (bounds_in (caller_in c)) else before_bounds (suc c.r.letters) (caller_in c)) ≡ length (caller_bounds c)
    caller_counted true = spares_counted (bounds_in (caller_in c)) ∙ frame_counted
    caller_counted false = by_first (nat_eq (suc c.r.letters) 1) ∙ frame_counted
