-- What a call's rows that are no ties add: the numbers of their rows in the word.
use Rattle.std.proofs.Common.{◌≡◌, ◌∙◌, ◌⊎◌, inl, inr, ℕ, suc, ◌+◌, ◌*◌, ◌<◌, ℤ, ◌+ℤ◌, Bool, true, false, List, [], ◌∷◌, ◌++◌, length, map, refl, sym, ap, subst, arith}
use Rattle.std.specs.Prelude.{slice_index, if◌then◌else◌}
use Rattle.std.specs.List.{AllByRecursion}
use Rattle.std.proofs.lemmas.Int.{ints}
use Rattle.std.proofs.lemmas.Bool.{ne_eqb, eq-eqb}
use Rattle.std.proofs.lemmas.List.{map-append, length-map}
use Rattle.math_facts.specs.Terms.{IsBelow}
use Rattle.lin_rows.specs.Rows.{LinearRow, IsRow}
use Rattle.lin_rows.specs.Tightening.{tightened}
use Rattle.letter_acts.specs.Frames.{Columns, globals_from, globals_of, olds_of}
use Rattle.letter_acts.specs.Invariant.{alphabet_of}
use Rattle.path_rows.specs.Versions.{local_columns, old_part}
use Rattle.letter_acts.specs.FrameRows.Rows.{columns_from, renamed, bounds, types_of, equal_row}
use Rattle.path_rows.specs.Paths.{repeated, start_frame, first_stage, path_along}
use Rattle.triple_rows.specs.Systems.{PlainFits, said, denied}
use Rattle.triple_rows.specs.Triples.{system_of}
use Rattle.nested_itp.specs.NestedPredicates.Positions.{has_return}
use Rattle.nested_itp.specs.NestedPredicates.Joins.{predicate_at}
use Rattle.nested_itp.specs.NestedRefutations.Refutations.{rows_in, Role, spare, branch_row}
use Rattle.nested_itp.specs.NestedRefutations.Numbers.{branch_rows, spares, before_bounds, bounds_in, Reading, position_here}
use Rattle.nested_itp.proofs.NestedRefutations.RowsLaws.{AllPairs, pairs_counted}
use Rattle.nested_itp.proofs.NestedRefutations.WayLaws.{others, others_joined, is_own}
use Rattle.nested_itp.proofs.NestedRefutations.WindowLaws.{passing, none_passes}
use Rattle.nested_itp.proofs.NestedRefutations.AddingLaws.{spares_add, rows_add}
use Rattle.nested_itp.proofs.NestedRefutations.ReadLaws.{IsEarly}
use Rattle.nested_itp.proofs.NestedRefutations.VersionLaws.{columns_at, columns_count}
use Rattle.nested_itp.proofs.NestedRefutations.MovingLaws.{rows_fit, all_parted, bounds_renamed, bounds_below, bounds_counted}
use Rattle.nested_itp.proofs.NestedRefutations.TieLaws.{tie_rows}
use Rattle.nested_itp.proofs.NestedRefutations.AlongLaws.{first_reading}
use Rattle.nested_itp.proofs.NestedRefutations.CallAtLaws.{call_to, call_system_is, call_system_rows}
use Rattle.nested_itp.proofs.NestedRefutations.CallColumnLaws.{CallLetter, caller_in, callee_in, width, heads, olds, call_names, call_step_in, call_view, caller_long, call_names_count, name_caller}
use Rattle.nested_itp.proofs.NestedRefutations.CallCutLaws.{low_of, call_own}
use Rattle.nested_itp.proofs.NestedRefutations.CallRowLaws.{own_rows_below, named_tie, IsOldAt, olds_at, olds_number, length_types, old_bounds, local_bounds, global_bounds, callee_bounds_rows, old_bounds_below, local_bounds_below, callee_roles}
use Rattle.nested_itp.proofs.NestedRefutations.CallSumLaws.{own_block, entry_block, local_block, old_block, callee_now, own_now, front_of, call_early_front, caller_bounds, old_ties, bound_roles}

-- ---- the numbers of the system's rows fit

pub record CallRowsFit (c : CallLetter) : Type 0 where
  pub own : AllByRecursion IsRow c.rows
  pub frame : AllByRecursion IsRow (bounds 0 (types_of (caller_in c)))
  pub old : AllByRecursion IsRow (old_bounds c)
  pub local : AllByRecursion IsRow (local_bounds c)

pub call_rows_fit : (c : CallLetter) → PlainFits (system_of (alphabet_of c.g) (call_step_in c).triple) → CallRowsFit c
call_rows_fit c f =
    let from = predicate_at c.g c.w c.t (position_here c.r) in
    let to = predicate_at c.g c.w c.t (call_to c.g c.r c.rest c.callee c.helpers) in
    let n : ℕ = length (caller_in c) in
    let e = ap rows_in (call_system_is c.g c.globals c.w c.t c.r c.a c.rest c.caller c.callee c.helpers c.rows c.at) ∙ call_system_rows (caller_in c) (callee_in c) c.rows from to in
    let all = subst (AllByRecursion IsRow) e (rows_fit (system_of (alphabet_of c.g) (call_step_in c).triple) f) in
    let g_rows : List LinearRow = map (λ x. equal_row (n + x) x) (globals_of (callee_in c)) in
    let o_rows : List LinearRow = map (λ o. equal_row (n + o.0) o.1) (olds_of (callee_in c)) in
    let t_rows : List LinearRow = rows_in (denied (λ x. n + x) to) in
    let f_rows : List LinearRow = bounds 0 (types_of (caller_in c)) in
    let l_rows : List LinearRow = bounds n (types_of (callee_in c)) in
    let one = all_parted IsRow (rows_in (said (λ x. x) from)) (g_rows ++ (o_rows ++ (c.rows ++ (t_rows ++ (f_rows ++ l_rows))))) all in
    let two = all_parted IsRow g_rows (o_rows ++ (c.rows ++ (t_rows ++ (f_rows ++ l_rows)))) one.1 in
    let three = all_parted IsRow o_rows (c.rows ++ (t_rows ++ (f_rows ++ l_rows))) two.1 in
    let four = all_parted IsRow c.rows (t_rows ++ (f_rows ++ l_rows)) three.1 in
    let five = all_parted IsRow t_rows (f_rows ++ l_rows) four.1 in
    let six = all_parted IsRow f_rows l_rows five.1 in
    let seven = all_parted IsRow (global_bounds c) (old_bounds c ++ local_bounds c) (subst (AllByRecursion IsRow) (callee_bounds_rows c) six.1) in
    let eight = all_parted IsRow (old_bounds c) (local_bounds c) seven.1 in
    record { own = four.0; frame = six.0; old = eight.0; local = eight.1 }

-- ---- rows that are so related to their rows in the word

pub record CallRows (c : CallLetter) (P : LinearRow → LinearRow → Type 0) : Type 0 where
  pub own : AllPairs P (map tightened c.rows) (own_block c)
  pub entry : AllPairs P (old_ties c) (entry_block c)
  pub local : AllPairs P (map tightened (local_bounds c)) (local_block c)
  pub old : AllPairs P (map tightened (old_bounds c)) (old_block c)
  pub frame : c.r ≡ first_reading c.g → caller_in c ≡ start_frame c.g → AllPairs P (caller_bounds c) (front_of c)

front_same : {X : Type 0} (xs ys us vs : List X) → xs ++ ys ≡ us ++ vs → length xs ≡ length us → xs ≡ us
front_same [] ys [] vs e l = refl
front_same [] ys (u ∷ us) vs e l = absurd (omega (arith, l))
front_same (x ∷ xs) ys [] vs e l = absurd (omega (arith, l))
front_same (x ∷ xs) ys (u ∷ us) vs e l = let q : x ≡ u = cc in let h : xs ++ ys ≡ us ++ vs = cc in let r : xs ≡ us = front_same xs ys us vs h (omega (arith, l)) in cc

pub front_first : (c : CallLetter) → c.r ≡ first_reading c.g → c.at.along.read.front ≡ bounds 0 (types_of (start_frame c.g))
front_first c e =
    sym (front_same (bounds 0 (types_of (start_frame c.g))) (path_along (alphabet_of c.g) 1 (first_stage (start_frame c.g)) c.w).rows c.at.along.read.front
    (path_along (alphabet_of c.g) (suc c.r.letters) c.r.stage (c.a ∷ c.rest)).rows c.at.along.read.rows
    (sym (c.at.along.read.row_count ∙ ap (λ (x : Reading). x.rows) e)))

frame_below : (c : CallLetter) → AllByRecursion (λ r. IsBelow (length (call_names c)) r.terms) (bounds 0 (types_of (caller_in c)))
frame_below c =
    let n = call_names_count c in
    let l = caller_long c in
    let m = length_types (caller_in c) in
    bounds_below (length (call_names c)) 0 (types_of (caller_in c)) (omega (arith, n, l, m))

-- the caller's columns are their own versions before the first letter
pub caller_first : (c : CallLetter) → c.r ≡ first_reading c.g → (x : ℕ) → x < width c → slice_index (call_names c) x ≡ x
caller_first c e x l =
    name_caller c x l ∙ ap (λ (y : Reading). slice_index y.stage.here x) e ∙
    (let w : width c ≡ length (start_frame c.g) = ap (λ (y : Reading). length y.stage.here) e ∙ columns_count 0 (length (start_frame c.g)) in columns_at 0 (length (start_frame c.g)) x (omega (arith, l, w))) ∙
    (let q : 0 + x ≡ x = omega arith in q)

pub entry_pairs : (c : CallLetter) (P : LinearRow → LinearRow → Type 0) (os : List (ℕ × ℕ)) → AllByRecursion (IsOldAt c) os →
    ((o : ℕ × ℕ) → IsOldAt c o → P (tightened (equal_row (length (caller_in c) + o.0) o.1)) (tightened (named_tie c o))) →
    AllPairs P (tie_rows (λ o. length (caller_in c) + o.0) (λ o. o.1) os) (map tightened (map (named_tie c) os))
entry_pairs c P [] h f = tt
entry_pairs c P (o ∷ os) h f = (f o h.0, entry_pairs c P os h.1 f)

-- from what holds of all rows over the system's columns, and of the entry rows
pub call_rows : (c : CallLetter) (P : LinearRow → LinearRow → Type 0) → CallRowsFit c →
    ((rows : List LinearRow) → AllByRecursion IsRow rows → AllByRecursion (λ r. IsBelow (length (call_names c)) r.terms) rows →
    AllPairs P (map tightened rows) (map tightened (map (renamed (slice_index (call_names c))) rows))) →
    ((o : ℕ × ℕ) → IsOldAt c o → P (tightened (equal_row (length (caller_in c) + o.0) o.1)) (tightened (named_tie c o))) → CallRows c P
call_rows c P fits f e = record {
  own = f c.rows fits.own (own_rows_below c);
  entry = entry_pairs c P (olds_of (callee_in c)) (olds_at c) e;
  local = f (local_bounds c) fits.local (local_bounds_below c);
  old = f (old_bounds c) fits.old (old_bounds_below c);
  frame = λ q s. subst (AllPairs P (caller_bounds c)) (ap (map tightened) (front_is q s)) (f (bounds 0 (types_of (caller_in c))) fits.frame (frame_below c));
}
  where
    front_is : c.r ≡ first_reading c.g → caller_in c ≡ start_frame c.g → map (renamed (slice_index (call_names c))) (bounds 0 (types_of (caller_in c))) ≡ c.at.along.read.front
    front_is q s =
        bounds_renamed (slice_index (call_names c)) 0 0 (types_of (caller_in c))
        (λ i l. caller_first c q (0 + i) (let long = caller_long c in let m = length_types (caller_in c) in omega (arith, l, long, m))) ∙
        ap (λ (x : Columns). bounds 0 (types_of x)) s ∙ sym (front_first c q)

-- ---- what they add

rows_pass : (c : CallLetter) (s : ℕ) → is_own (call_view c) s ≡ true → (rows : List LinearRow) → AllPairs (λ r s. is_own (call_view c) s ≡ true) rows (repeated s (length rows))
rows_pass c s h [] = tt
rows_pass c s h (r ∷ rows) = (h, rows_pass c s h rows)

-- the stamp of what the call makes for its callee is own
callee_own : (c : CallLetter) → is_own (call_view c) (suc (2 * suc c.r.letters)) ≡ true
callee_own c = (call_own c (suc (2 * suc c.r.letters))).1 (above (has_return 0 c.rest)) (omega arith)
  where
    above : (z : Bool) → low_of z c.r.letters < suc (2 * suc c.r.letters)
    above true = omega arith
    above false = omega arith

-- rows of the word from one number on, which it makes for its callee
pub callee_add : (c : CallLetter) (val : Role → ℤ) (number other : LinearRow → ℤ) (k : ℕ) (rows block : List LinearRow) → AllPairs (λ r s. number r ≡ other s) rows block →
    others val number (branch_rows k (length rows)) rows ≡ passing (is_own (call_view c)) (λ j. val (branch_row j)) other k block (callee_now c block)
callee_add c val number other k rows block same =
    rows_add (call_view c) val number other k rows block (callee_now c block) same (rows_pass c (suc (2 * suc c.r.letters)) (callee_own c) block)

-- the bounds of the callee's old columns and locals; those of its globals are spare
pub bounds_add : (c : CallLetter) (val : Role → ℤ) (number other : LinearRow → ℤ) → CallRows c (λ r s. number r ≡ other s) →
    others val number (bound_roles c) (map tightened (bounds (length (caller_in c)) (types_of (callee_in c)))) ≡
    passing (is_own (call_view c)) (λ j. val (branch_row j)) other (length (front_of c) + length (own_block c) + length (entry_block c)) (local_block c) (callee_now c (local_block c)) +ℤ
    passing (is_own (call_view c)) (λ j. val (branch_row j)) other (length (front_of c) + length (own_block c) + length (entry_block c) + length (local_block c)) (old_block c) (callee_now c (old_block c))
bounds_add c val number other same =
    let local : ℕ = c.r.rows + length c.rows + length (old_part (callee_in c)) in
    let old : ℕ = local + bounds_in (local_columns (callee_in c)) in
    let g_rows : List LinearRow = map tightened (global_bounds c) in
    let o_rows : List LinearRow = map tightened (old_bounds c) in
    let l_rows : List LinearRow = map tightened (local_bounds c) in
    let g_roles : List Role = spares (bounds_in (globals_from 0 c.at.infos)) in
    let rows_are : map tightened (bounds (length (caller_in c)) (types_of (callee_in c))) ≡ g_rows ++ (o_rows ++ l_rows) =
    ap (map tightened) (callee_bounds_rows c) ∙ map-append tightened (global_bounds c) (old_bounds c ++ local_bounds c) ∙ ap (λ (l : List LinearRow). g_rows ++ l) (map-append tightened (old_bounds c) (local_bounds c)) in
    let on : bounds_in (old_part (callee_in c)) ≡ length o_rows = sym (bounds_counted (length (caller_in c) + heads c) 0 (types_of (old_part (callee_in c)))) ∙ sym (length-map (old_bounds c) tightened) in
    let ln : bounds_in (local_columns (callee_in c)) ≡ length l_rows =
    sym (bounds_counted (length (caller_in c) + (heads c + olds c)) 0 (types_of (local_columns (callee_in c)))) ∙ sym (length-map (local_bounds c) tightened) in
    let gn : bounds_in (globals_from 0 c.at.infos) ≡ length g_rows = sym (bounds_counted (length (caller_in c)) 0 (types_of (globals_from 0 c.at.infos))) ∙ sym (length-map (global_bounds c) tightened) in
    let lb : length l_rows ≡ length (local_block c) = pairs_counted (λ r s. number r ≡ other s) l_rows (local_block c) same.local in
    let rows : c.r.rows ≡ length (front_of c) = sym c.at.along.read.row_count ∙ sym (length-map c.at.along.read.front tightened) in
    let own : length c.rows ≡ length (own_block c) = sym (length-map c.rows tightened) ∙ pairs_counted (λ r s. number r ≡ other s) (map tightened c.rows) (own_block c) same.own in
    let entries : length (old_part (callee_in c)) ≡ length (entry_block c) =
    sym (olds_number c) ∙ sym (length-map (olds_of (callee_in c)) (named_tie c)) ∙ sym (length-map (map (named_tie c) (olds_of (callee_in c))) tightened) in
    let local_at : local ≡ length (front_of c) + length (own_block c) + length (entry_block c) = omega (arith, rows, own, entries) in
    let old_at : old ≡ length (front_of c) + length (own_block c) + length (entry_block c) + length (local_block c) = omega (arith, rows, own, entries, ln, lb) in
    let roles_are : bound_roles c ≡ g_roles ++ (branch_rows old (length o_rows) ++ branch_rows local (length l_rows)) =
    callee_roles c local old ∙ ap (λ (n : ℕ). g_roles ++ (branch_rows old n ++ branch_rows local (bounds_in (local_columns (callee_in c))))) on ∙
    ap (λ (n : ℕ). g_roles ++ (branch_rows old (length o_rows) ++ branch_rows local n)) ln in
    let whole : others val number (bound_roles c) (map tightened (bounds (length (caller_in c)) (types_of (callee_in c)))) ≡
    others val number (g_roles ++ (branch_rows old (length o_rows) ++ branch_rows local (length l_rows))) (g_rows ++ (o_rows ++ l_rows)) =
    ap (λ (l : List Role). others val number l (map tightened (bounds (length (caller_in c)) (types_of (callee_in c))))) roles_are ∙
    ap (others val number (g_roles ++ (branch_rows old (length o_rows) ++ branch_rows local (length l_rows)))) rows_are in
    let p1 = others_joined val number g_roles g_rows (branch_rows old (length o_rows) ++ branch_rows local (length l_rows)) (o_rows ++ l_rows)
    (length-map (columns_from 0 (bounds_in (globals_from 0 c.at.infos))) (λ r. spare) ∙ columns_count 0 (bounds_in (globals_from 0 c.at.infos)) ∙ gn) in
    let p2 = others_joined val number (branch_rows old (length o_rows)) o_rows (branch_rows local (length l_rows)) l_rows
    (length-map (columns_from old (length o_rows)) branch_row ∙ columns_count old (length o_rows)) in
    let z = spares_add val number 0 (bounds_in (globals_from 0 c.at.infos)) g_rows in
    let a = callee_add c val number other old o_rows (old_block c) same.old in
    let b = callee_add c val number other local l_rows (local_block c) same.local in
    let at_old : passing (is_own (call_view c)) (λ j. val (branch_row j)) other old (old_block c) (callee_now c (old_block c)) ≡
    passing (is_own (call_view c)) (λ j. val (branch_row j)) other (length (front_of c) + length (own_block c) + length (entry_block c) + length (local_block c)) (old_block c) (callee_now c (old_block c)) =
    ap (λ (k : ℕ). passing (is_own (call_view c)) (λ j. val (branch_row j)) other k (old_block c) (callee_now c (old_block c))) old_at in
    let at_local : passing (is_own (call_view c)) (λ j. val (branch_row j)) other local (local_block c) (callee_now c (local_block c)) ≡
    passing (is_own (call_view c)) (λ j. val (branch_row j)) other (length (front_of c) + length (own_block c) + length (entry_block c)) (local_block c) (callee_now c (local_block c)) =
    ap (λ (k : ℕ). passing (is_own (call_view c)) (λ j. val (branch_row j)) other k (local_block c) (callee_now c (local_block c))) local_at in
    omega (arith, ints, whole, p1, p2, z, a, b, at_old, at_local)

-- ---- of a call that does not return

own_pending : (c : CallLetter) → has_return 0 c.rest ≡ false → is_own (call_view c) (2 * suc c.r.letters) ≡ true
own_pending c e = (call_own c (2 * suc c.r.letters)).1 (subst (λ (z : Bool). low_of z c.r.letters < 2 * suc c.r.letters) (sym e) (omega arith)) (omega arith)

all_true : (P : ℕ → Type 0) (Q : ℕ → Type 0) → ((s : ℕ) → P s → Q s) → (ss : List ℕ) → AllByRecursion P ss → AllByRecursion Q ss
all_true P Q f [] h = tt
all_true P Q f (s ∷ ss) h = (f s h.0, all_true P Q f ss h.1)

pairs_of_second : {X : Type 0} (P : ℕ → Type 0) (xs : List X) (ss : List ℕ) → length ss ≡ length xs → AllByRecursion P ss → AllPairs (λ x s. P s) xs ss
pairs_of_second P [] [] l h = tt
pairs_of_second P [] (s ∷ ss) l h = absurd (omega (arith, l))
pairs_of_second P (x ∷ xs) [] l h = absurd (omega (arith, l))
pairs_of_second P (x ∷ xs) (s ∷ ss) l h = (h.0, pairs_of_second P xs ss (omega (arith, l)) h.1)

-- the bounds of the frame before it
pub frame_add : (c : CallLetter) → has_return 0 c.rest ≡ false → (val : Role → ℤ) (number other : LinearRow → ℤ) → CallRows c (λ r s. number r ≡ other s) →
    others val number (before_bounds (suc c.r.letters) (caller_in c)) (caller_bounds c) ≡ passing (is_own (call_view c)) (λ j. val (branch_row j)) other 0 (front_of c) c.at.along.read.early
frame_add c pending val number other same = by_begun c.at.begun
  where
    count : length (caller_bounds c) ≡ bounds_in (caller_in c)
    count = length-map (bounds 0 (types_of (caller_in c))) tightened ∙ bounds_counted 0 0 (types_of (caller_in c))

    low : (s : ℕ) → s < suc (suc (2 * c.r.letters)) → is_own (call_view c) s ≡ false
    low s l = (call_own c s).0 (subst (λ (z : Bool). s < suc (low_of z c.r.letters)) (sym pending) l)

    at_first : c.r ≡ first_reading c.g → (s : ℕ) → IsEarly c.r.letters s → is_own (call_view c) s ≡ true
    at_first e s (two, inl q) =
        let z : c.r.letters ≡ 0 = ap (λ (x : Reading). x.letters) e in
        (call_own c s).1 (subst (λ (y : Bool). low_of y c.r.letters < s) (sym pending) (omega (arith, z, q))) (omega (arith, z, q))
    at_first e s (two, inr q) = let z : c.r.letters ≡ 0 = ap (λ (x : Reading). x.letters) e in absurd (omega (arith, z, q, two))

    at_later : 0 < c.r.letters → (s : ℕ) → IsEarly c.r.letters s → is_own (call_view c) s ≡ false
    at_later l s (two, inl q) = low s (omega (arith, l, q))
    at_later l s (two, inr q) = low s (omega (arith, l, q))

    by_begun : ((c.r ≡ first_reading c.g) × (caller_in c ≡ start_frame c.g)) ⊎ (0 < c.r.letters) →
        others val number (before_bounds (suc c.r.letters) (caller_in c)) (caller_bounds c) ≡ passing (is_own (call_view c)) (λ j. val (branch_row j)) other 0 (front_of c) c.at.along.read.early
    by_begun (inl e) =
        let letters : suc c.r.letters ≡ 1 = ap (λ (x : Reading). suc x.letters) e.0 in
        let position_here : before_bounds (suc c.r.letters) (caller_in c) ≡ branch_rows 0 (bounds_in (caller_in c)) = ap (λ (z : Bool). if z then branch_rows 0 (bounds_in (caller_in c)) else spares (bounds_in (caller_in c))) (eq-eqb (suc c.r.letters) 1 letters) in
        ap (λ (l : List Role). others val number l (caller_bounds c)) (position_here ∙ ap (branch_rows 0) (sym count)) ∙
        rows_add (call_view c) val number other 0 (caller_bounds c) (front_of c) c.at.along.read.early (same.frame e.0 e.1)
        (pairs_of_second (λ s. is_own (call_view c) s ≡ true) (front_of c) c.at.along.read.early (call_early_front c)
        (all_true (IsEarly c.r.letters) (λ s. is_own (call_view c) s ≡ true) (at_first e.0) c.at.along.read.early c.at.along.read.early_within))
    by_begun (inr l) =
        let position_here : before_bounds (suc c.r.letters) (caller_in c) ≡ spares (bounds_in (caller_in c)) =
        ap (λ (z : Bool). if z then branch_rows 0 (bounds_in (caller_in c)) else spares (bounds_in (caller_in c))) (ne_eqb (suc c.r.letters) 1 (λ (e : suc c.r.letters ≡ 1). omega (arith, l, e))) in
        ap (λ (r : List Role). others val number r (caller_bounds c)) position_here ∙ spares_add val number 0 (bounds_in (caller_in c)) (caller_bounds c) ∙
        sym (none_passes (is_own (call_view c)) (λ j. val (branch_row j)) other 0 (front_of c) c.at.along.read.early
        (all_true (IsEarly c.r.letters) (λ s. is_own (call_view c) s ≡ false) (at_later l) c.at.along.read.early c.at.along.read.early_within))

-- the call's own rows
pub own_add : (c : CallLetter) → has_return 0 c.rest ≡ false → (val : Role → ℤ) (number other : LinearRow → ℤ) → CallRows c (λ r s. number r ≡ other s) →
    others val number (branch_rows c.r.rows (length c.rows)) (map tightened c.rows) ≡ passing (is_own (call_view c)) (λ j. val (branch_row j)) other (length (front_of c)) (own_block c) (own_now c)
own_add c pending val number other same =
    let rows : c.r.rows ≡ length (front_of c) = sym c.at.along.read.row_count ∙ sym (length-map c.at.along.read.front tightened) in
    ap (λ (n : ℕ). others val number (branch_rows n (length c.rows)) (map tightened c.rows)) rows ∙
    ap (λ (n : ℕ). others val number (branch_rows (length (front_of c)) n) (map tightened c.rows)) (sym (length-map c.rows tightened)) ∙
    rows_add (call_view c) val number other (length (front_of c)) (map tightened c.rows) (own_block c) (own_now c) same.own (rows_pass c (2 * suc c.r.letters) (own_pending c pending) (own_block c))

-- its entry rows
pub entry_add : (c : CallLetter) (val : Role → ℤ) (number other : LinearRow → ℤ) → CallRows c (λ r s. number r ≡ other s) →
    others val number (branch_rows (c.r.rows + length c.rows) (length (olds_of (callee_in c)))) (old_ties c) ≡
    passing (is_own (call_view c)) (λ j. val (branch_row j)) other (length (front_of c) + length (own_block c)) (entry_block c) (callee_now c (entry_block c))
entry_add c val number other same =
    let rows : c.r.rows ≡ length (front_of c) = sym c.at.along.read.row_count ∙ sym (length-map c.at.along.read.front tightened) in
    let own : length c.rows ≡ length (own_block c) = sym (length-map c.rows tightened) ∙ pairs_counted (λ r s. number r ≡ other s) (map tightened c.rows) (own_block c) same.own in
    let at : c.r.rows + length c.rows ≡ length (front_of c) + length (own_block c) = omega (arith, rows, own) in
    let n : length (olds_of (callee_in c)) ≡ length (old_ties c) =
    sym (length-map (olds_of (callee_in c)) (λ o. equal_row (length (caller_in c) + o.0) o.1)) ∙ sym (length-map (map (λ o. equal_row (length (caller_in c) + o.0) o.1) (olds_of (callee_in c))) tightened) in
    ap (λ (k : ℕ). others val number (branch_rows k (length (olds_of (callee_in c)))) (old_ties c)) at ∙
    ap (λ (k : ℕ). others val number (branch_rows (length (front_of c) + length (own_block c)) k) (old_ties c)) n ∙
    callee_add c val number other (length (front_of c) + length (own_block c)) (old_ties c) (entry_block c) same.entry
