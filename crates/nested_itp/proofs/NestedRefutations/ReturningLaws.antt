-- A call that returns: its leaf adds up.
use Rattle.std.proofs.Common.{◌≡◌, ◌∙◌, ◌⊎◌, inl, inr, ℕ, zero, suc, ◌+◌, ◌-◌, ◌*◌, ◌<◌, ◌≤◌, ℤ, pos, neg_ℤ, ◌+ℤ◌, ◌*ℤ◌, Bool, true, false, List, [], ◌∷◌, ◌++◌, length, map, refl, sym, ap, subst, arith, length-append, Option, None, Some}
use Rattle.std.specs.Prelude.{not, ◌&&◌, slice_index, slice_get, IsSomeAnd, ◌-ℤ◌, if◌then◌else◌}
use Rattle.std.specs.List.{AllByRecursion}
use Rattle.std.proofs.lemmas.Int.{ints}
use Rattle.math_facts.specs.Terms.{coefficient, IsBelow}
use Rattle.boogie_tree.specs.declared.tree.Column.{Column}
use Rattle.boogie_tree.specs.declared.tree.Column.TheVariants.{Global, Old, Local}
use Rattle.boogie_tree.specs.declared.tree.VarInfo.{VarInfo}
use Rattle.nwa_base.specs.Members.{Member}
use Rattle.lin_rows.specs.Rows.{LinearRow}
use Rattle.lin_rows.specs.Negating.{below_opposite}
use Rattle.lin_rows.specs.Tightening.{tightened}
use Rattle.letter_acts.specs.Frames.{Columns, is_global_column, is_fixed_column, is_variable, is_local, is_parameter, globals_of, constants_of, variables_of, old_at, olds_from, olds_of}
use Rattle.letter_acts.specs.Invariant.{AreDistinct, MayName}
use Rattle.letter_acts.proofs.FrameLemmas.{variable_or_constant, olds_of_variables, IsConsecutive, olds_consecutive}
use Rattle.path_rows.specs.Versions.{local_columns, old_part}
use Rattle.path_rows.specs.Paths.{repeated}
use Rattle.path_rows.proofs.OpenLemmas.{at_place}
use Rattle.path_rows.proofs.DifferLemmas.{places_distinct}
use Rattle.letter_acts.specs.FrameRows.Rows.{renamed, bounds, types_of}
use Rattle.nested_itp.specs.NestedPredicates.Stamps.{column_stamp}
use Rattle.nested_itp.specs.NestedPredicates.Positions.{has_return, known_at, known_columns, if_constant_version}
use Rattle.nested_itp.specs.NestedPredicates.Sums.{Branch, root_of, sum_upto, column_upto, bound_upto, known_sum, bound_at}
use Rattle.nested_itp.specs.NestedRefutations.Refutations.{Role, target_tie, opposite_tie, is_used, multiplier}
use Rattle.nested_itp.specs.NestedRefutations.Numbers.{branch_rows, spares, before_bounds, bounds_in}
use Rattle.nested_itp.proofs.NestedRefutations.RowsLaws.{AllPairs, pairs_joined}
use Rattle.nested_itp.proofs.NestedRefutations.WayLaws.{other_of, others, is_own, own_sum}
use Rattle.nested_itp.proofs.NestedRefutations.WindowLaws.{passing, none_passes, none_counts, is_upto}
use Rattle.nested_itp.proofs.NestedRefutations.OwnLaws.{IsColumnOf, cuts_same, no_cuts, cut_bounds, own_parts, window_sum}
use Rattle.nested_itp.proofs.NestedRefutations.AddingLaws.{spares_add}
use Rattle.nested_itp.proofs.NestedRefutations.ClaimLaws.{columns_added, bounds_added, AddsUp}
use Rattle.nested_itp.proofs.NestedRefutations.ColumnLaws.{known_in}
use Rattle.nested_itp.proofs.NestedRefutations.ContentLaws.{renamed_at, tightened_off}
use Rattle.nested_itp.proofs.NestedRefutations.MovingLaws.{below_or, bounds_moved, bounds_below, coefficient_above}
use Rattle.nested_itp.proofs.NestedRefutations.LeavesLaws.{LeafFacts}
use Rattle.nested_itp.proofs.NestedRefutations.ReadLaws.{IsEarly}
use Rattle.nested_itp.proofs.NestedRefutations.GoneLaws.{below_at}
use Rattle.nested_itp.proofs.NestedRefutations.TieLaws.{ties_off, ties_first, ties_second, ties_bound, first_coefficient, second_coefficient, other_coefficient, equal_bound}
use Rattle.nested_itp.proofs.NestedRefutations.InsideLeafLaws.{NotNamed, no_stamp, no_name, no_cut, all_weaker}
use Rattle.nested_itp.proofs.NestedRefutations.LayoutLaws.{parameter_behind}
use Rattle.nested_itp.proofs.NestedRefutations.InsideColumnLaws.{length-repeated}
use Rattle.nested_itp.proofs.NestedRefutations.CallAtLaws.{entry_of}
use Rattle.nested_itp.proofs.NestedRefutations.CallColumnLaws.{CallLetter, caller_in, callee_in, width, heads, olds, locals, made, call_names, call_names_differ, call_view, call_root, call_first, lay, caller_long, callee_long, call_names_count, name_caller, name_old, name_local, CallPlace, of_caller, of_global, of_old, of_local, of_helper, call_place, heads_within, entry_long, entry_global, entry_old, entry_local}
use Rattle.nested_itp.proofs.NestedRefutations.CallCutLaws.{low_of, call_own, MadeAt, before_it, as_local, as_helper, as_old, behind_it, made_at, column_local, column_old_in}
use Rattle.nested_itp.proofs.NestedRefutations.CallRowLaws.{own_rows_below, bounds_above, none_named, IsOldAt, olds_at, olds_number, named_tie, length_types, old_bounds, local_bounds}
use Rattle.nested_itp.proofs.NestedRefutations.CallSumLaws.{own_block, entry_block, local_block, old_block, call_block, callee_now, own_now, call_now, front_of, later_rows, later_stamps, call_later_within, call_later_counted, call_parted, call_leaf_counted, block_passes, source_claim, target_claim, old_ties, caller_bounds, bound_roles, call_parts_add}
use Rattle.nested_itp.proofs.NestedRefutations.CallAddLaws.{CallRows, call_rows, bounds_add}
use Rattle.nested_itp.proofs.NestedRefutations.CallLeafLaws.{from_member, call_not_named, front_unnamed, no_sum, upto_below, claim_sum, target_sum, target_at, target_off, tie_times, globals_tie, ties_at_caller, ties_at_callee, ties_elsewhere}
use Rattle.nested_itp.proofs.NestedRefutations.CallBeginLaws.{olds_tie}
use Rattle.nested_itp.proofs.NestedRefutations.PendingLaws.{CallOpens, tied, used_target, fits_at, fits_off, call_entry_bound}

-- what the ties of old columns add
abbrev pub opposed : CallLetter → (Role → ℤ) → (LinearRow → ℤ) → ℤ
opposed c val number = others val number (map (λ o. opposite_tie o.1) (olds_of (callee_in c))) (old_ties c)

-- what the rows of the callee's bounds add
abbrev bounded : CallLetter → (Role → ℤ) → (LinearRow → ℤ) → ℤ
bounded c val number = others val number (bound_roles c) (map tightened (bounds (length (caller_in c)) (types_of (callee_in c))))

-- all rows of the system: its own rows and the caller's bounds are spare
rows_added : (c : CallLetter) → has_return 0 c.rest ≡ true → CallOpens c → (val : Role → ℤ) (number : LinearRow → ℤ) →
    others val number (call_first c).roles (call_first c).rows ≡ tied c val number +ℤ (opposed c val number +ℤ bounded c val number)
rows_added c returns o val number =
    let parts = call_parts_add c val number o.source_count o.target_count in
    let e : others val number (if has_return 0 c.rest then map (λ o. opposite_tie o.1) (olds_of (callee_in c)) else branch_rows (c.r.rows + length c.rows) (length (olds_of (callee_in c)))) (old_ties c) ≡ opposed c val number =
    ap (λ (z : Bool). others val number (if z then map (λ o. opposite_tie o.1) (olds_of (callee_in c)) else branch_rows (c.r.rows + length c.rows) (length (olds_of (callee_in c)))) (old_ties c)) returns in
    let f : others val number (if has_return 0 c.rest then spares (length c.rows) else branch_rows c.r.rows (length c.rows)) (map tightened c.rows) ≡ pos 0 =
    ap (λ (z : Bool). others val number (if z then spares (length c.rows) else branch_rows c.r.rows (length c.rows)) (map tightened c.rows)) returns ∙ spares_add val number 0 (length c.rows) (map tightened c.rows) in
    let h : others val number (if has_return 0 c.rest then spares (bounds_in (caller_in c)) else before_bounds (suc c.r.letters) (caller_in c)) (caller_bounds c) ≡ pos 0 =
    ap (λ (z : Bool). others val number (if z then spares (bounds_in (caller_in c)) else before_bounds (suc c.r.letters) (caller_in c)) (caller_bounds c)) returns ∙
    spares_add val number 0 (bounds_in (caller_in c)) (caller_bounds c) in
    omega (arith, ints, parts, e, f, h)

-- ---- what is own

own_low : (c : CallLetter) → has_return 0 c.rest ≡ true → (s : ℕ) → s < suc (2 * suc c.r.letters) → is_own (call_view c) s ≡ false
own_low c returns s l = (call_own c s).0 (subst (λ (z : Bool). s < suc (low_of z c.r.letters)) (sym returns) l)

not_both : (x : Bool) → x ≡ true → x ≡ false → ⊥
not_both true e f = absurd (cc)
not_both false e f = absurd (cc)

-- the columns of own cuts: the callee's locals and old columns
data OwnAt (c : CallLetter) (col : ℕ) : Type 0 where
  at_local : (i : ℕ) → i < locals c → col ≡ made c + i → OwnAt c col
  at_old : (i : ℕ) → i < olds c → col ≡ made c + (locals c + c.helpers + i) → OwnAt c col

own_at : (c : CallLetter) → has_return 0 c.rest ≡ true → (col : ℕ) → col < length (call_view c).columns → is_own (call_view c) (column_stamp (call_view c).columns col) ≡ true → OwnAt c col
own_at c returns col l own = by_made (made_at c col l)
  where
    low : column_stamp (call_view c).columns col < suc (2 * suc c.r.letters) → ⊥
    low h = not_both (is_own (call_view c) (column_stamp (call_view c).columns col)) own (own_low c returns (column_stamp (call_view c).columns col) h)

    by_made : MadeAt c col (column_stamp (call_view c).columns col) → OwnAt c col
    by_made (before_it b (two, inl e)) = absurd (low (omega (arith, e)))
    by_made (before_it b (two, inr e)) = absurd (low (omega (arith, e)))
    by_made (as_local i b e s) = at_local i b e
    by_made (as_helper i b e s) = absurd (low (omega (arith, s)))
    by_made (as_old i b e s) = at_old i b e
    by_made (behind_it b s) = absurd (not_both (is_own (call_view c) (column_stamp (call_view c).columns col)) own ((call_own c (column_stamp (call_view c).columns col)).2 (omega (arith, s))))

pub record IsPlaced (c : CallLetter) (col x : ℕ) : Type 0 where
  pub within : x < length (call_names c)
  pub column : (call_view c).column col ≡ x
  pub version : slice_index (call_names c) x ≡ col
  pub from : width c + heads c ≤ x
  pub upto : x < width c + (heads c + (olds c + locals c))
  pub later : made c ≤ col

placed : (c : CallLetter) (col : ℕ) → OwnAt c col → (x : ℕ) × IsPlaced c col x
placed c col (at_local i l e) =
    let n = call_names_count c in (
      width c + (heads c + (olds c + i)),
      record {
        within = omega (arith, n, l);
        column = column_local c col i e l;
        version = name_local c (width c + (heads c + (olds c + i))) i refl l ∙ sym e;
        from = omega arith;
        upto = omega (arith, l);
        later = omega (arith, e);
      },
    )
placed c col (at_old i l e) =
    let n = call_names_count c in (
      width c + (heads c + i),
      record {
        within = omega (arith, n, l);
        column = column_old_in c col i e l;
        version = name_old c (width c + (heads c + i)) i refl l ∙ (let q : made c + locals c + c.helpers + i ≡ col = omega (arith, e) in q);
        from = omega arith;
        upto = omega (arith, l);
        later = omega (arith, e);
      },
    )

column_of : (c : CallLetter) → has_return 0 c.rest ≡ true → (x : ℕ) → x < length (call_names c) → IsColumnOf (call_view c) x (slice_index (call_names c) x)
column_of c returns x l col within own =
    let p = placed c col (own_at c returns col within own) in (
      λ e. p.1.column ∙ call_names_differ c p.0 x p.1.within l (p.1.version ∙ e),
      λ e. sym p.1.version ∙ ap (slice_index (call_names c)) (sym p.1.column ∙ e),
    )

no_column : (c : CallLetter) → has_return 0 c.rest ≡ true → (x : ℕ) → (x < width c + heads c) ⊎ (width c + (heads c + (olds c + locals c)) ≤ x) →
    (col : ℕ) → col < length (call_view c).columns → is_own (call_view c) (column_stamp (call_view c).columns col) ≡ true → (call_view c).column col ≡ x → ⊥
no_column c returns x h col within own e =
    let p = placed c col (own_at c returns col within own) in
    by_place h p.1 (sym p.1.column ∙ e)
  where
    by_place : (x < width c + heads c) ⊎ (width c + (heads c + (olds c + locals c)) ≤ x) → {y : ℕ} → IsPlaced c col y → y ≡ x → ⊥
    by_place (inl k) p q = let a = p.from in omega (arith, a, q, k)
    by_place (inr k) p q = let a = p.upto in omega (arith, a, q, k)

-- ---- the word's sums over the call

abbrev entry_sum : CallLetter → List (ℕ × ℤ) → (LinearRow → ℤ) → ℤ
entry_sum c parts other = passing (is_own (call_view c)) (λ j. coefficient j parts) other (length (front_of c) + length (own_block c)) (entry_block c) (callee_now c (entry_block c))

abbrev local_sum : CallLetter → List (ℕ × ℤ) → (LinearRow → ℤ) → ℤ
local_sum c parts other = passing (is_own (call_view c)) (λ j. coefficient j parts) other (length (front_of c) + length (own_block c) + length (entry_block c)) (local_block c) (callee_now c (local_block c))

abbrev old_sum : CallLetter → List (ℕ × ℤ) → (LinearRow → ℤ) → ℤ
old_sum c parts other =
    passing (is_own (call_view c)) (λ j. coefficient j parts) other (length (front_of c) + length (own_block c) + length (entry_block c) + length (local_block c)) (old_block c) (callee_now c (old_block c))

abbrev cut_sum : CallLetter → List (ℕ × ℤ) → (LinearRow → ℤ) → List LinearRow → List ℕ → ℤ
cut_sum c parts other more late = passing (is_own (call_view c)) (λ j. coefficient j parts) other (length (root_of c.g c.w).rows) more late

all_false : (c : CallLetter) → has_return 0 c.rest ≡ true → (ss : List ℕ) → AllByRecursion (λ s. s < suc (2 * suc c.r.letters)) ss → AllByRecursion (λ s. is_own (call_view c) s ≡ false) ss
all_false c returns [] h = tt
all_false c returns (s ∷ ss) h = (own_low c returns s h.0, all_false c returns ss h.1)

repeats : (c : CallLetter) (n : ℕ) → AllByRecursion (λ s. s < suc (2 * suc c.r.letters)) (repeated (2 * suc c.r.letters) n)
repeats c zero = tt
repeats c (suc n) = (omega arith, repeats c n)

all_stamps : (P : ℕ → Type 0) → ((s : ℕ) → P s) → (ss : List ℕ) → AllByRecursion P ss
all_stamps P f [] = tt
all_stamps P f (s ∷ ss) = (f s, all_stamps P f ss)

-- the entry rows, the bounds and the own cuts are what the word's sum has more after the call's own rows
window : (c : CallLetter) → has_return 0 c.rest ≡ true → (more : List LinearRow) (late : List ℕ) (n : ℕ) (b : Branch) (parts : List (ℕ × ℤ)) → LeafFacts (call_view c) (call_root c) more late n b parts →
    (other : LinearRow → ℤ) → sum_upto b parts other (suc (2 * suc c.r.letters)) ≡
    sum_upto b parts other (2 * suc c.r.letters) +ℤ (entry_sum c parts other +ℤ (local_sum c parts other +ℤ (old_sum c parts other +ℤ cut_sum c parts other more late)))
window c returns more late n b parts f other =
    let k : ℕ = suc c.r.letters in
    let d = own_parts (call_view c) (root_of c.g c.w) b (front_of c) (call_block c) c.at.along.read.early (call_now c) more late (call_parted c more late n b parts f) (λ j. coefficient j parts) other in
    let m = block_passes c (λ j. coefficient j parts) other (length (front_of c)) in
    let z : passing (is_own (call_view c)) (λ j. coefficient j parts) other 0 (front_of c) c.at.along.read.early ≡ pos 0 =
    none_passes (is_own (call_view c)) (λ j. coefficient j parts) other 0 (front_of c) c.at.along.read.early
    (all_false c returns c.at.along.read.early (all_weaker (IsEarly c.r.letters) (λ s. s < suc (2 * k)) (λ s e. early s e) c.at.along.read.early c.at.along.read.early_within)) in
    let y : passing (is_own (call_view c)) (λ j. coefficient j parts) other (length (front_of c)) (own_block c) (own_now c) ≡ pos 0 =
    none_passes (is_own (call_view c)) (λ j. coefficient j parts) other (length (front_of c)) (own_block c) (own_now c) (all_false c returns (own_now c) (repeats c (length (own_block c)))) in
    let e = window_sum (call_view c) b parts other (2 * k) (suc (2 * k)) (omega arith) (call_leaf_counted c more late n b parts f) f.contradicts.each
    (all_stamps (λ s. (s < suc (2 * k) → is_own (call_view c) s ≡ false) × (2 * k < s → s < suc (suc (2 * k)) → is_own (call_view c) s ≡ true) × (suc (2 * k) < s → is_own (call_view c) s ≡ false)) (λ s. owns s) b.stamps) in
    omega (arith, ints, d, m, z, y, e)
  where
    early : (s : ℕ) → IsEarly c.r.letters s → s < suc (2 * suc c.r.letters)
    early s (two, inl e) = omega (arith, e)
    early s (two, inr e) = omega (arith, e)

    owns : (s : ℕ) → (s < suc (2 * suc c.r.letters) → is_own (call_view c) s ≡ false) × (2 * suc c.r.letters < s → s < suc (suc (2 * suc c.r.letters)) → is_own (call_view c) s ≡ true) ×
        (suc (2 * suc c.r.letters) < s → is_own (call_view c) s ≡ false)
    owns s = subst (λ (z : Bool). (s < suc (low_of z c.r.letters) → is_own (call_view c) s ≡ false) × (low_of z c.r.letters < s → s < suc (suc (2 * suc c.r.letters)) → is_own (call_view c) s ≡ true) ×
        (suc (2 * suc c.r.letters) < s → is_own (call_view c) s ≡ false)) returns (call_own c s)

-- ---- rows with the number 0

pairs_zero : (number other : LinearRow → ℤ) (rows block : List LinearRow) → AllPairs (λ r s. number r ≡ other s) rows block → AllByRecursion (λ r. number r ≡ pos 0) rows → (test : ℕ → Bool) (times : ℕ → ℤ) (k : ℕ) (ss : List ℕ) →
    passing test times other k block ss ≡ pos 0
pairs_zero number other [] [] h z test times k ss = refl
pairs_zero number other [] (s ∷ block) h z test times k ss = absurd h
pairs_zero number other (r ∷ rows) [] h z test times k ss = absurd h
pairs_zero number other (r ∷ rows) (s ∷ block) h z test times k [] = refl
pairs_zero number other (r ∷ rows) (s ∷ block) h z test times k (t ∷ ss) =
    let m = pairs_zero number other rows block h.1 z.1 test times (suc k) ss in
    let e : other s ≡ pos 0 = sym h.0 ∙ z.0 in
    let q : (if test t then times k *ℤ other s else pos 0) ≡ pos 0 = by_test (test t) e in
    omega (arith, ints, m, q)
  where
    nothing : (y : ℤ) → y *ℤ pos 0 ≡ pos 0
    nothing y = omega (arith, ints)

    by_test : (z : Bool) → other s ≡ pos 0 → (if z then times k *ℤ other s else pos 0) ≡ pos 0
    by_test true e = ap (λ (y : ℤ). times k *ℤ y) e ∙ nothing (times k)
    by_test false e = refl

pub others_zero : (val : Role → ℤ) (number : LinearRow → ℤ) (roles : List Role) (rows : List LinearRow) → AllByRecursion (λ r. number r ≡ pos 0) rows → others val number roles rows ≡ pos 0
others_zero val number [] rows h = refl
others_zero val number (r ∷ roles) [] h = refl
others_zero val number (r ∷ roles) (x ∷ rows) h =
    let m = others_zero val number roles rows h.1 in
    let e : other_of val r *ℤ number x ≡ pos 0 = ap (λ (y : ℤ). other_of val r *ℤ y) h.0 ∙ (let q : other_of val r *ℤ pos 0 ≡ pos 0 = omega (arith, ints) in q) in
    omega (arith, ints, m, e)

pub tight_off : (x : ℕ) (rows : List LinearRow) → AllByRecursion (λ r. coefficient x r.terms ≡ pos 0) rows → AllByRecursion (λ r. coefficient x r.terms ≡ pos 0) (map tightened rows)
tight_off x [] h = tt
tight_off x (r ∷ rows) h = (tightened_off x r h.0, tight_off x rows h.1)

pub passing_zero : (test : ℕ → Bool) (times : ℕ → ℤ) (other : LinearRow → ℤ) (k : ℕ) (rows : List LinearRow) (ss : List ℕ) → AllByRecursion (λ r. other r ≡ pos 0) rows → passing test times other k rows ss ≡ pos 0
passing_zero test times other k [] ss h = refl
passing_zero test times other k (r ∷ rows) [] h = refl
passing_zero test times other k (r ∷ rows) (s ∷ ss) h =
    let m = passing_zero test times other (suc k) rows ss h.1 in
    let q : (if test s then times k *ℤ other r else pos 0) ≡ pos 0 = by_test (test s) h.0 in
    omega (arith, ints, m, q)
  where
    nothing : (y : ℤ) → y *ℤ pos 0 ≡ pos 0
    nothing y = omega (arith, ints)

    by_test : (z : Bool) → other r ≡ pos 0 → (if z then times k *ℤ other r else pos 0) ≡ pos 0
    by_test true e = ap (λ (y : ℤ). times k *ℤ y) e ∙ nothing (times k)
    by_test false e = refl

-- ---- the old columns of the callee

map_member : {X : Type 0} (f : X → ℕ) (xs : List X) (y : ℕ) → Member (map f xs) y → (x : X) × Member xs x × (f x ≡ y)
map_member f [] y m = absurd m
map_member f (x ∷ xs) y (inl e) = (x, inl refl, e)
map_member f (x ∷ xs) y (inr m) = let r = map_member f xs y m in (r.0, inr r.1, r.2)

consecutive_at : (n i : ℕ) (os : List (ℕ × ℕ)) → IsConsecutive n os → i < length os → (o : ℕ × ℕ) × Member os o × (o.0 ≡ n + i)
consecutive_at n i [] h l = absurd (omega (arith, l))
consecutive_at n zero (o ∷ os) h l = let e = h.0 in (o, inl refl, omega (arith, e))
consecutive_at n (suc i) (o ∷ os) h l = let r = consecutive_at (suc n) i os h.1 (omega (arith, l)) in let e = r.2 in (r.0, inr r.1, omega (arith, e))

consecutive_above : (n : ℕ) (os : List (ℕ × ℕ)) → IsConsecutive n os → (x : ℕ) → Member (map (λ o. o.0) os) x → n ≤ x
consecutive_above n [] h x m = absurd m
consecutive_above n (o ∷ os) h x (inl e) = let k = h.0 in omega (arith, e, k)
consecutive_above n (o ∷ os) h x (inr m) = let k = consecutive_above (suc n) os h.1 x m in omega (arith, k)

consecutive_apart : (n : ℕ) (os : List (ℕ × ℕ)) → IsConsecutive n os → AreDistinct (map (λ o. o.0) os)
consecutive_apart n [] h = tt
consecutive_apart n (o ∷ os) h = ((λ m. (let k = consecutive_above (suc n) os h.1 o.0 m in let e = h.0 in omega (arith, k, e))), consecutive_apart (suc n) os h.1)

shifted_apart : (n : ℕ) (os : List (ℕ × ℕ)) → AreDistinct (map (λ o. o.0) os) → AreDistinct (map (λ o. n + o.0) os)
shifted_apart n [] h = tt
shifted_apart n (o ∷ os) h = ((λ m. h.0 (back os m)), shifted_apart n os h.1)
  where
    back : (os : List (ℕ × ℕ)) → Member (map (λ o. n + o.0) os) (n + o.0) → Member (map (λ o. o.0) os) o.0
    back [] m = absurd m
    back (p ∷ os) (inl e) = inl (omega (arith, e))
    back (p ∷ os) (inr m) = inr (back os m)

pub record OldsOf (c : CallLetter) : Type 0 where
  pub firsts : AreDistinct (map (λ o. o.0) (olds_of (callee_in c)))
  pub seconds : AreDistinct (map (λ o. o.1) (olds_of (callee_in c)))
  pub at : (i : ℕ) → i < olds c → (o : ℕ × ℕ) × Member (olds_of (callee_in c)) o × (o.0 ≡ heads c + i)
  pub of : (x : ℕ) → Member (variables_of (callee_in c)) x → (o : ℕ × ℕ) × Member (olds_of (callee_in c)) o × (o.1 ≡ x)

pub olds_in : (c : CallLetter) → OldsOf c
olds_in c =
    let k = olds_consecutive c.at.infos (callee_in c) c.at.to_frame in
    let e : map (λ o. o.1) (olds_of (callee_in c)) ≡ variables_of (callee_in c) = olds_of_variables c.at.infos (callee_in c) c.at.to_frame in
    record {
      firsts = consecutive_apart (heads c) (olds_of (callee_in c)) k;
      seconds = subst AreDistinct (sym e) (places_distinct is_variable 0 (callee_in c));
      at = λ i l. consecutive_at (heads c) i (olds_of (callee_in c)) k (let m = olds_number c in omega (arith, l, m));
      of = λ x m. map_member (λ o. o.1) (olds_of (callee_in c)) x (subst (λ (l : List ℕ). Member l x) (sym e) m);
    }

member_all : {X : Type 0} (P : X → Type 0) (xs : List X) (x : X) → Member xs x → AllByRecursion P xs → P x
member_all P [] x m h = absurd m
member_all P (y ∷ xs) x (inl e) h = subst P e h.0
member_all P (y ∷ xs) x (inr m) h = member_all P xs x m h.1

pub old_place : (c : CallLetter) (o : ℕ × ℕ) → Member (olds_of (callee_in c)) o → IsOldAt c o
old_place c o m = member_all (IsOldAt c) (olds_of (callee_in c)) o m (olds_at c)

-- ---- what the ties of old columns add

opposed_second : (c : CallLetter) (val : Role → ℤ) (o : ℕ × ℕ) → Member (olds_of (callee_in c)) o → opposed c val (λ r. coefficient o.1 r.terms) ≡ neg_ℤ (val (opposite_tie o.1))
opposed_second c val o m =
    let g = (old_place c o m).global in
    ties_second val (λ p. opposite_tie p.1) (λ p. length (caller_in c) + p.0) (λ p. p.1) o (olds_of (callee_in c)) (olds_tie c) m (olds_in c).seconds
    (all_weaker (IsOldAt c) (λ p. length (caller_in c) + p.0 ≡ o.1 → ⊥) (λ p q r. (let a = caller_long c in let e = q.column in let w = heads_within c in omega (arith, r, e, g, w, a))) (olds_of (callee_in c)) (olds_at c))

opposed_first : (c : CallLetter) (val : Role → ℤ) (o : ℕ × ℕ) → Member (olds_of (callee_in c)) o → opposed c val (λ r. coefficient (length (caller_in c) + o.0) r.terms) ≡ val (opposite_tie o.1)
opposed_first c val o m =
    let e = (old_place c o m).column in
    ties_first val (λ p. opposite_tie p.1) (λ p. length (caller_in c) + p.0) (λ p. p.1) o (olds_of (callee_in c)) (olds_tie c) m (shifted_apart (length (caller_in c)) (olds_of (callee_in c)) (olds_in c).firsts)
    (all_weaker (IsOldAt c) (λ p. p.1 ≡ length (caller_in c) + o.0 → ⊥) (λ p q r. (let a = caller_long c in let g = q.global in let w = heads_within c in omega (arith, r, e, g, w, a))) (olds_of (callee_in c)) (olds_at c))

opposed_off : (c : CallLetter) (val : Role → ℤ) (x : ℕ) → ((o : ℕ × ℕ) → IsOldAt c o → Member (olds_of (callee_in c)) o → (length (caller_in c) + o.0 ≡ x → ⊥) × (o.1 ≡ x → ⊥)) →
    opposed c val (λ r. coefficient x r.terms) ≡ pos 0
opposed_off c val x f = ties_off val (λ p. opposite_tie p.1) (λ p. length (caller_in c) + p.0) (λ p. p.1) x (olds_of (callee_in c)) (olds_tie c) (each (olds_of (callee_in c)) (olds_at c) (λ o m. m))
  where
    each : (os : List (ℕ × ℕ)) → AllByRecursion (IsOldAt c) os → ((o : ℕ × ℕ) → Member os o → Member (olds_of (callee_in c)) o) → AllByRecursion (λ p. (length (caller_in c) + p.0 ≡ x → ⊥) × (p.1 ≡ x → ⊥)) os
    each [] h k = tt
    each (o ∷ os) h k = (f o h.0 (k o (inl refl)), each os h.1 (λ p m. k p (inr m)))

-- ---- the entry rows of the word

-- an old column and its global have two versions
named_apart : (c : CallLetter) (o : ℕ × ℕ) → IsOldAt c o → slice_index (call_names c) (width c + o.0) ≡ slice_index (call_names c) o.1 → ⊥
named_apart c o q r =
    let e = q.column in
    let i = q.within in
    let g = q.global in
    let w = heads_within c in
    let m = call_names_count c in
    let s = call_names_differ c (width c + o.0) o.1 (omega (arith, m, e, i)) (omega (arith, m, g, w)) r in
    omega (arith, s, e, g, w)

pub named_off : (c : CallLetter) (y : ℕ) (os : List (ℕ × ℕ)) → AllByRecursion (IsOldAt c) os →
    ((o : ℕ × ℕ) → IsOldAt c o → Member os o → (slice_index (call_names c) (width c + o.0) ≡ y → ⊥) × (slice_index (call_names c) o.1 ≡ y → ⊥)) →
    AllByRecursion (λ r. coefficient y r.terms ≡ pos 0) (map tightened (map (named_tie c) os))
named_off c y [] h f = tt
named_off c y (o ∷ os) h f =
    let k = f o h.0 (inl refl) in
    (other_coefficient (slice_index (call_names c) (width c + o.0)) (slice_index (call_names c) o.1) y (named_apart c o h.0) k.0 k.1, named_off c y os h.1 (λ p q m. f p q (inr m)))

same_old : (c : CallLetter) (o p : ℕ × ℕ) → IsOldAt c o → IsOldAt c p → slice_index (call_names c) (width c + p.0) ≡ slice_index (call_names c) (width c + o.0) → p.0 ≡ o.0
same_old c o p q h r =
    let e = q.column in
    let i = q.within in
    let f = h.column in
    let j = h.within in
    let m = call_names_count c in
    let s = call_names_differ c (width c + p.0) (width c + o.0) (omega (arith, m, f, j)) (omega (arith, m, e, i)) r in
    omega (arith, s)

same_global : (c : CallLetter) (o p : ℕ × ℕ) → IsOldAt c o → IsOldAt c p → slice_index (call_names c) p.1 ≡ slice_index (call_names c) o.1 → p.1 ≡ o.1
same_global c o p q h r =
    let g = q.global in
    let f = h.global in
    let w = heads_within c in
    let m = call_names_count c in
    call_names_differ c p.1 o.1 (omega (arith, m, f, w)) (omega (arith, m, g, w)) r

other_pair : (c : CallLetter) (o p : ℕ × ℕ) → IsOldAt c o → IsOldAt c p → slice_index (call_names c) (width c + p.0) ≡ slice_index (call_names c) o.1 → ⊥
other_pair c o p q h r =
    let g = q.global in
    let f = h.column in
    let j = h.within in
    let w = heads_within c in
    let m = call_names_count c in
    let s = call_names_differ c (width c + p.0) o.1 (omega (arith, m, f, j)) (omega (arith, m, g, w)) r in
    omega (arith, s, g, w)

times_opposite : (m x y : ℤ) → x ≡ pos 1 → y ≡ neg_ℤ (pos 1) → (m *ℤ x) +ℤ (m *ℤ y) ≡ pos 0
times_opposite m x y e f =
    let a : m *ℤ x ≡ m *ℤ pos 1 = ap (λ (z : ℤ). m *ℤ z) e in
    let b : m *ℤ y ≡ m *ℤ neg_ℤ (pos 1) = ap (λ (z : ℤ). m *ℤ z) f in
    omega (arith, ints, a, b)

-- they take from a global's version what they add to the old column's
entries_cancel : (c : CallLetter) (test : ℕ → Bool) (times : ℕ → ℤ) (s : ℕ) (o : ℕ × ℕ) → IsOldAt c o → (k : ℕ) (os : List (ℕ × ℕ)) → AllByRecursion (IsOldAt c) os → Member os o →
    AreDistinct (map (λ o. o.0) os) → AreDistinct (map (λ o. o.1) os) →
    passing test times (λ r. coefficient (slice_index (call_names c) (width c + o.0)) r.terms) k (map tightened (map (named_tie c) os)) (repeated s (length (map tightened (map (named_tie c) os)))) +ℤ
    passing test times (λ r. coefficient (slice_index (call_names c) o.1) r.terms) k (map tightened (map (named_tie c) os)) (repeated s (length (map tightened (map (named_tie c) os)))) ≡ pos 0
entries_cancel c test times s o q k [] h m d e = absurd m
entries_cancel c test times s o q k (p ∷ os) h (inl same) d e =
    let y : ℕ = slice_index (call_names c) (width c + o.0) in
    let g : ℕ = slice_index (call_names c) o.1 in
    let rest : List LinearRow = map tightened (map (named_tie c) os) in
    let zy = passing_zero test times (λ r. coefficient y r.terms) (suc k) rest (repeated s (length rest))
    (named_off c y os h.1 (λ x t n. (
      (λ r. d.0 (subst (λ (z : ℕ × ℕ). Member (map (λ o. o.0) os) z.0) (sym same) (subst (Member (map (λ o. o.0) os)) (same_old c o x q t r) (mapped (λ o. o.0) os x n)))),
      (λ r. other_pair c x o t q (sym r)),
    ))) in
    let zg = passing_zero test times (λ r. coefficient g r.terms) (suc k) rest (repeated s (length rest))
    (named_off c g os h.1 (λ x t n. (
      (λ r. other_pair c o x q t r),
      (λ r. e.0 (subst (λ (z : ℕ × ℕ). Member (map (λ o. o.1) os) z.1) (sym same) (subst (Member (map (λ o. o.1) os)) (same_global c o x q t r) (mapped (λ o. o.1) os x n)))),
    ))) in
    let row : LinearRow = tightened (named_tie c p) in
    let a : coefficient y row.terms ≡ pos 1 = ap (λ (z : ℕ × ℕ). coefficient y (tightened (named_tie c z)).terms) same ∙ first_coefficient y g (named_apart c o q) in
    let b : coefficient g row.terms ≡ neg_ℤ (pos 1) = ap (λ (z : ℕ × ℕ). coefficient g (tightened (named_tie c z)).terms) same ∙ second_coefficient y g (named_apart c o q) in
    let head = both_pass (test s) (times k) (coefficient y row.terms) (coefficient g row.terms) (times_opposite (times k) (coefficient y row.terms) (coefficient g row.terms) a b) in
    omega (arith, ints, zy, zg, head)
  where
    both_pass : (z : Bool) (m x y : ℤ) → (m *ℤ x) +ℤ (m *ℤ y) ≡ pos 0 → (if z then m *ℤ x else pos 0) +ℤ (if z then m *ℤ y else pos 0) ≡ pos 0
    both_pass true m x y h = h
    both_pass false m x y h = refl

    mapped : (f : ℕ × ℕ → ℕ) (xs : List (ℕ × ℕ)) (x : ℕ × ℕ) → Member xs x → Member (map f xs) (f x)
    mapped f [] x m = absurd m
    mapped f (y ∷ xs) x (inl e) = inl (ap f e)
    mapped f (y ∷ xs) x (inr m) = inr (mapped f xs x m)
entries_cancel c test times s o q k (p ∷ os) h (inr m) d e =
    let y : ℕ = slice_index (call_names c) (width c + o.0) in
    let g : ℕ = slice_index (call_names c) o.1 in
    let rest = entries_cancel c test times s o q (suc k) os h.1 m d.1 e.1 in
    let row : LinearRow = tightened (named_tie c p) in
    let a : coefficient y row.terms ≡ pos 0 = other_coefficient (slice_index (call_names c) (width c + p.0)) (slice_index (call_names c) p.1) y (named_apart c p h.0)
    (λ r. d.0 (subst (Member (map (λ o. o.0) os)) (sym (same_old c o p q h.0 r)) (mapped (λ o. o.0) os o m))) (λ r. other_pair c p o h.0 q (sym r)) in
    let b : coefficient g row.terms ≡ pos 0 = other_coefficient (slice_index (call_names c) (width c + p.0)) (slice_index (call_names c) p.1) g (named_apart c p h.0)
    (λ r. other_pair c o p q h.0 r) (λ r. e.0 (subst (Member (map (λ o. o.1) os)) (sym (same_global c o p q h.0 r)) (mapped (λ o. o.1) os o m))) in
    let ha = none_pass (test s) (times k) (coefficient y row.terms) a in
    let hb = none_pass (test s) (times k) (coefficient g row.terms) b in
    omega (arith, ints, rest, ha, hb)
  where
    none_pass : (z : Bool) (m x : ℤ) → x ≡ pos 0 → (if z then m *ℤ x else pos 0) ≡ pos 0
    none_pass true m x h = ap (λ (y : ℤ). m *ℤ y) h ∙ (let q : m *ℤ pos 0 ≡ pos 0 = omega (arith, ints) in q)
    none_pass false m x h = refl

    mapped : (f : ℕ × ℕ → ℕ) (xs : List (ℕ × ℕ)) (x : ℕ × ℕ) → Member xs x → Member (map f xs) (f x)
    mapped f [] x m = absurd m
    mapped f (y ∷ xs) x (inl e) = inl (ap f e)
    mapped f (y ∷ xs) x (inr m) = inr (mapped f xs x m)

-- ---- by which versions the caller's sum speaks of the callee's columns

pub known_get : (frame : Columns) (entry before : List ℕ) (j : ℕ) (v : Column × VarInfo) → slice_get frame j ≡ Some v → j < length entry →
    known_in (known_columns frame entry before) j ≡ known_at v.0 v.1.constant (slice_index entry j) before
known_get [] entry before j v e l = absurd (cc)
known_get (d ∷ frame) [] before j v e l = absurd (omega (arith, l))
known_get (d ∷ frame) (x ∷ entry) before zero v e l = let s : d ≡ v = cc in ap (λ (u : Column × VarInfo). known_at u.0 u.1.constant x before) s
known_get (d ∷ frame) (x ∷ entry) before (suc j) v e l = known_get frame entry before j v e (omega (arith, l))

pub known_constant : (v : Column × VarInfo) (x : ℕ) (before : List ℕ) → is_fixed_column v ≡ true → known_at v.0 v.1.constant x before ≡ Some x
known_constant (d, info) x before e = by_column d e
  where
    by_column : (d : Column) → is_fixed_column (d, info) ≡ true → known_at d info.constant x before ≡ Some x
    by_column (Global g) e = ap (λ (z : Bool). if_constant_version z x) e
    by_column (Old g) e = absurd (cc)
    by_column (Local l) e = absurd (cc)

pub known_variable : (v : Column × VarInfo) (x : ℕ) (before : List ℕ) → is_variable v ≡ true → known_at v.0 v.1.constant x before ≡ None
known_variable (d, info) x before e = by_column d e
  where
    by_constant : (z : Bool) → not z ≡ true → if_constant_version z x ≡ None
    by_constant true e = absurd (cc)
    by_constant false e = refl

    by_column : (d : Column) → is_variable (d, info) ≡ true → known_at d info.constant x before ≡ None
    by_column (Global g) e = by_constant info.constant e
    by_column (Old g) e = absurd (cc)
    by_column (Local l) e = absurd (cc)

-- an old column is known by the version of its global before the call
pub old_column : (n : ℕ) (frame : Columns) (o : ℕ × ℕ) → Member (olds_from n frame) o → (i : ℕ) × (v : Column × VarInfo) × (o.0 ≡ n + i) × (slice_get frame i ≡ Some v) × (v.0 ≡ Old o.1)
old_column n [] o m = absurd m
old_column n (d ∷ frame) o m = by_column d.0 refl m (old_column (suc n) frame o)
  where
    further : (i : ℕ) × (v : Column × VarInfo) × (o.0 ≡ suc n + i) × (slice_get frame i ≡ Some v) × (v.0 ≡ Old o.1) →
        (i : ℕ) × (v : Column × VarInfo) × (o.0 ≡ n + i) × (slice_get (d ∷ frame) i ≡ Some v) × (v.0 ≡ Old o.1)
    further r = let e = r.2 in (suc r.0, r.1, omega (arith, e), r.3, r.4)

    by_column : (col : Column) → d.0 ≡ col → Member (old_at col n (olds_from (suc n) frame)) o →
        (Member (olds_from (suc n) frame) o → (i : ℕ) × (v : Column × VarInfo) × (o.0 ≡ suc n + i) × (slice_get frame i ≡ Some v) × (v.0 ≡ Old o.1)) →
        (i : ℕ) × (v : Column × VarInfo) × (o.0 ≡ n + i) × (slice_get (d ∷ frame) i ≡ Some v) × (v.0 ≡ Old o.1)
    by_column (Global g) e m f = further (f m)
    by_column (Local l) e m f = further (f m)
    by_column (Old g) e (inr m) f = further (f m)
    by_column (Old g) e (inl q) f = (0, d, (let a : n ≡ o.0 = ap (λ (z : ℕ × ℕ). z.0) q in omega (arith, a)), refl, e ∙ ap Old (ap (λ (z : ℕ × ℕ). z.1) q))

pub slice_some : (xs : List ℕ) (j : ℕ) → j < length xs → slice_get xs j ≡ Some (slice_index xs j)
slice_some [] j l = absurd (omega (arith, l))
slice_some (x ∷ xs) zero l = refl
slice_some (x ∷ xs) (suc j) l = slice_some xs j (omega (arith, l))

-- ---- at a leaf

-- up to the call's own rows a version has no sum that none of the earlier rows, the own rows and the helpers' cuts name
pub new_at_call : (c : CallLetter) (more : List LinearRow) (late : List ℕ) (n : ℕ) (b : Branch) (parts : List (ℕ × ℤ)) → LeafFacts (call_view c) (call_root c) more late n b parts →
    (y : ℕ) → made c ≤ y → ((i : ℕ) → i < c.helpers → made c + locals c + i ≡ y → ⊥) → AllByRecursion (λ r. coefficient y r.terms ≡ pos 0) (map (renamed (slice_index (call_names c))) c.rows) →
    column_upto b parts (2 * suc c.r.letters) y ≡ pos 0
new_at_call c more late n b parts f y l helper own =
    let P : ℕ → Type 0 = λ s. is_upto (2 * suc c.r.letters) s ≡ true in
    let Q : LinearRow → ℕ → Type 0 = λ r s. P s → coefficient y r.terms ≡ pos 0 in
    let rest : List LinearRow = entry_block c ++ (local_block c ++ old_block c) in
    let rest_now : List ℕ = callee_now c (entry_block c) ++ (callee_now c (local_block c) ++ callee_now c (old_block c)) in
    let own_part : NotNamed P y (own_block c) (own_now c) = no_name P y (map (renamed (slice_index (call_names c))) c.rows) (own_now c) (length-repeated (2 * suc c.r.letters) (length (own_block c))) own in
    let rest_part : NotNamed P y rest rest_now = no_stamp P y rest rest_now (rest_counted c)
    (joined (callee_now c (entry_block c)) (callee_now c (local_block c) ++ callee_now c (old_block c)) (too_late (length (entry_block c)))
    (joined (callee_now c (local_block c)) (callee_now c (old_block c)) (too_late (length (local_block c))) (too_late (length (old_block c))))) in
    no_sum c more late n b parts f (2 * suc c.r.letters) y
    (call_not_named c more late n b parts f P y (front_unnamed c P y l) (pairs_joined Q (own_block c) (own_now c) rest rest_now own_part rest_part)
    (no_stamp P y (map tightened (later_rows c)) (later_stamps c) (call_later_counted c)
    (all_weaker (λ s. 2 * suc (suc c.r.letters) ≤ s) (λ s. P s → ⊥) (λ s m p. (let k = upto_below (2 * suc c.r.letters) s p in omega (arith, m, k))) (later_stamps c) (call_later_within c)))
    (no_cut (call_view c).columns P y (λ col k p e. early col (upto_below (2 * suc c.r.letters) (column_stamp (call_view c).columns col) p) e (made_at c col k)) more late f.cuts))
  where
    joined : (xs ys : List ℕ) → AllByRecursion (λ s. is_upto (2 * suc c.r.letters) s ≡ true → ⊥) xs → AllByRecursion (λ s. is_upto (2 * suc c.r.letters) s ≡ true → ⊥) ys →
        AllByRecursion (λ s. is_upto (2 * suc c.r.letters) s ≡ true → ⊥) (xs ++ ys)
    joined [] ys h k = k
    joined (x ∷ xs) ys h k = (h.0, joined xs ys h.1 k)

    too_late : (m : ℕ) → AllByRecursion (λ s. is_upto (2 * suc c.r.letters) s ≡ true → ⊥) (repeated (suc (2 * suc c.r.letters)) m)
    too_late zero = tt
    too_late (suc m) = ((λ p. (let k = upto_below (2 * suc c.r.letters) (suc (2 * suc c.r.letters)) p in omega (arith, k))), too_late m)

    rest_counted : (c : CallLetter) → length (callee_now c (entry_block c) ++ (callee_now c (local_block c) ++ callee_now c (old_block c))) ≡ length (entry_block c ++ (local_block c ++ old_block c))
    rest_counted c =
        let k : ℕ = suc (2 * suc c.r.letters) in
        let b = length-append (callee_now c (entry_block c)) (callee_now c (local_block c) ++ callee_now c (old_block c)) in
        let d = length-append (callee_now c (local_block c)) (callee_now c (old_block c)) in
        let e = length-append (entry_block c) (local_block c ++ old_block c) in
        let h = length-append (local_block c) (old_block c) in
        let m = length-repeated k (length (entry_block c)) in
        let p = length-repeated k (length (local_block c)) in
        let q = length-repeated k (length (old_block c)) in
        omega (arith, b, d, e, h, m, p, q)

    early : (col : ℕ) → column_stamp (call_view c).columns col < suc (2 * suc c.r.letters) → col ≡ y → MadeAt c col (column_stamp (call_view c).columns col) → ⊥
    early col s e (before_it h k) = omega (arith, h, e, l)
    early col s e (as_local i h k q) = omega (arith, s, q)
    early col s e (as_helper i h k q) = helper i h (omega (arith, k, e))
    early col s e (as_old i h k q) = omega (arith, s, q)
    early col s e (behind_it h q) = omega (arith, s, q)

-- the call's own rows over the names of their columns
pub own_named : (c : CallLetter) (x : ℕ) → x < length (call_names c) → AllByRecursion (λ r. coefficient x r.terms ≡ pos 0) c.rows →
    AllByRecursion (λ r. coefficient (slice_index (call_names c) x) r.terms ≡ pos 0) (map (renamed (slice_index (call_names c))) c.rows)
own_named c x l h = each c.rows (own_rows_below c) h
  where
    each : (rows : List LinearRow) → AllByRecursion (λ r. IsBelow (length (call_names c)) r.terms) rows → AllByRecursion (λ r. coefficient x r.terms ≡ pos 0) rows →
        AllByRecursion (λ r. coefficient (slice_index (call_names c) x) r.terms ≡ pos 0) (map (renamed (slice_index (call_names c))) rows)
    each [] b z = tt
    each (r ∷ rows) b z = (renamed_at (length (call_names c)) (slice_index (call_names c)) (call_names_differ c) r b.0 x l ∙ z.0, each rows b.1 z.1)

-- they name no column of the callee but parameters
pub own_off : (c : CallLetter) (x : ℕ) → (MayName (caller_in c) (callee_in c) c.helpers x → ⊥) → AllByRecursion (λ r. coefficient x r.terms ≡ pos 0) c.rows
own_off c x n =
    all_weaker (λ r. AllByRecursion (λ t. MayName (caller_in c) (callee_in c) c.helpers t.0) r.terms) (λ r. coefficient x r.terms ≡ pos 0)
    (λ r h. none_named c x (λ t m e. n (subst (MayName (caller_in c) (callee_in c) c.helpers) e m)) r.terms h) c.rows c.at.acted.may_name

-- the multiplier of an old column's tie is the opposite of the target's sum at the global
opposite_times : (c : CallLetter) (n : ℕ) (b : Branch) (parts : List (ℕ × ℤ)) (j : ℕ) → j < length (callee_in c) → multiplier (call_view c) n b parts (opposite_tie j) ≡ neg_ℤ (target_sum c b parts j)
opposite_times c n b parts j l = ap neg_ℤ (tie_times c n b parts j l)

-- what a global's version has more after the call is what the entry rows add
pub global_window : (c : CallLetter) → has_return 0 c.rest ≡ true → CallOpens c → (more : List LinearRow) (late : List ℕ) (n : ℕ) (b : Branch) (parts : List (ℕ × ℤ)) → LeafFacts (call_view c) (call_root c) more late n b parts →
    (x : ℕ) → x < width c → column_upto b parts (suc (2 * suc c.r.letters)) (slice_index (call_names c) x) ≡
    column_upto b parts (2 * suc c.r.letters) (slice_index (call_names c) x) +ℤ entry_sum c parts (λ r. coefficient (slice_index (call_names c) x) r.terms)
global_window c returns o more late n b parts f x l =
    let y : ℕ = slice_index (call_names c) x in
    let other : LinearRow → ℤ = λ r. coefficient y r.terms in
    let a = caller_long c in
    let m = call_names_count c in
    let below : y < made c = subst (λ (z : ℕ). z < made c) (sym (name_caller c x l)) (below_at (made c) c.r.stage.here x c.at.versions.below l) in
    let same = fits_at c o x (omega (arith, l, m)) in
    let w = window c returns more late n b parts f other in
    let zl = pairs_zero (λ r. coefficient x r.terms) other (map tightened (local_bounds c)) (local_block c) same.local
    (tight_off x (local_bounds c) (bounds_above (length (caller_in c) + (heads c + olds c)) x (types_of (local_columns (callee_in c))) (omega (arith, l, a)))) (is_own (call_view c)) (λ j. coefficient j parts)
    (length (front_of c) + length (own_block c) + length (entry_block c)) (callee_now c (local_block c)) in
    let zo = pairs_zero (λ r. coefficient x r.terms) other (map tightened (old_bounds c)) (old_block c) same.old
    (tight_off x (old_bounds c) (bounds_above (length (caller_in c) + heads c) x (types_of (old_part (callee_in c))) (omega (arith, l, a)))) (is_own (call_view c)) (λ j. coefficient j parts)
    (length (front_of c) + length (own_block c) + length (entry_block c) + length (local_block c)) (callee_now c (old_block c)) in
    let zc = none_counts (is_own (call_view c)) (λ j. coefficient j parts) other (length (root_of c.g c.w).rows) more late
    (no_cut (call_view c).columns (λ s. is_own (call_view c) s ≡ true) y (λ col k p e. (let q = (placed c col (own_at c returns col k p)).1.later in omega (arith, q, e, below))) more late f.cuts) in
    omega (arith, ints, w, zl, zo, zc)

claims_add : (c : CallLetter) → has_return 0 c.rest ≡ true → (b : Branch) (parts : List (ℕ × ℤ)) (x : ℕ) →
    columns_added (call_view c) b parts x 0 (call_view c).claims ≡ neg_ℤ (claim_sum (target_claim c) b parts x)
claims_add c returns b parts x =
    let s : ℤ = claim_sum (source_claim c) b parts x in
    let t : ℤ = neg_ℤ (claim_sum (target_claim c) b parts x) in
    let p : (if is_used (call_view c) 0 then s else pos 0) ≡ pos 0 = ap (λ (z : Bool). if not (z && true) then s else pos 0) returns in
    let q : (if is_used (call_view c) 1 then t else pos 0) ≡ t = ap (λ (z : Bool). if z then t else pos 0) (used_target c) in
    omega (arith, ints, p, q)

claims_bound : (c : CallLetter) → has_return 0 c.rest ≡ true → (b : Branch) (parts : List (ℕ × ℤ)) →
    bounds_added (call_view c) b parts 0 (call_view c).claims ≡ below_opposite (bound_at b parts (target_claim c).position)
claims_bound c returns b parts =
    let s : ℤ = bound_at b parts (source_claim c).position in
    let t : ℤ = below_opposite (bound_at b parts (target_claim c).position) in
    let p : (if is_used (call_view c) 0 then s else pos 0) ≡ pos 0 = ap (λ (z : Bool). if not (z && true) then s else pos 0) returns in
    let q : (if is_used (call_view c) 1 then t else pos 0) ≡ t = ap (λ (z : Bool). if z then t else pos 0) (used_target c) in
    omega (arith, ints, p, q)

target_own : (c : CallLetter) → has_return 0 c.rest ≡ true → (target_claim c).position.scope.own ≡ 2 * suc c.r.letters
target_own c returns = ap (λ (z : Bool). if z then 2 * suc c.r.letters else 0) returns

-- the entry rows have the bound 0
entry_bounds : (c : CallLetter) (os : List (ℕ × ℕ)) → AllByRecursion (IsOldAt c) os → AllByRecursion (λ r. r.bound ≡ pos 0) (map tightened (map (named_tie c) os))
entry_bounds c [] h = tt
entry_bounds c (o ∷ os) h = (equal_bound (slice_index (call_names c) (width c + o.0)) (slice_index (call_names c) o.1) (named_apart c o h.0), entry_bounds c os h.1)

pub returning_adds : (c : CallLetter) → has_return 0 c.rest ≡ true → CallOpens c → (more : List LinearRow) (late : List ℕ) (n : ℕ) (b : Branch) (parts : List (ℕ × ℤ)) →
    LeafFacts (call_view c) (call_root c) more late n b parts → AddsUp (call_view c) (call_root c) (call_first c) more late n b parts
returning_adds c returns o more late n b parts f = record {
  columns = λ x. by_width x (below_or x (length (call_names c)));
  bound =
      (let same : CallRows c (λ r s. r.bound ≡ s.bound) = call_rows c (λ r s. r.bound ≡ s.bound) o.fits (λ rows h k. bounds_moved (call_names c) (call_names_differ c) rows h k) (λ p q. call_entry_bound c p q) in
      let a = rows_added c returns o (multiplier (call_view c) n b parts) (λ r. r.bound) in
      let t = ties_bound (multiplier (call_view c) n b parts) target_tie (λ x. length (caller_in c) + x) (λ x. x) (globals_of (callee_in c)) (globals_tie c) in
      let u = ties_bound (multiplier (call_view c) n b parts) (λ p. opposite_tie p.1) (λ p. length (caller_in c) + p.0) (λ p. p.1) (olds_of (callee_in c)) (olds_tie c) in
      let d = bounds_add c (multiplier (call_view c) n b parts) (λ r. r.bound) (λ r. r.bound) same in
      let e = cut_bounds (call_view c) (multiplier (call_view c) n b parts) (length (root_of c.g c.w).rows) more late in
      let w = window c returns more late n b parts f (λ r. r.bound) in
      let z = passing_zero (is_own (call_view c)) (λ j. coefficient j parts) (λ r. r.bound) (length (front_of c) + length (own_block c)) (entry_block c) (callee_now c (entry_block c)) (entry_bounds c (olds_of (callee_in c)) (olds_at c)) in
      let k = claims_bound c returns b parts in
      let m : bound_upto b parts (target_claim c).position.scope.own ≡ bound_upto b parts (2 * suc c.r.letters) = ap (bound_upto b parts) (target_own c returns) in
      omega (arith, ints, a, t, u, d, e, w, z, k, m));
}
  where
    -- where no row of bounds names the column, and no own cut is at it
    ties_alone : (x : ℕ) → (x < width c + heads c) ⊎ (width c + (heads c + (olds c + locals c)) ≤ x) →
        others (multiplier (call_view c) n b parts) (λ r. coefficient x r.terms) (bound_roles c) (map tightened (bounds (length (caller_in c)) (types_of (callee_in c)))) ≡ pos 0 →
        others (multiplier (call_view c) n b parts) (λ r. coefficient x r.terms) (call_first c).roles (call_first c).rows +ℤ
        own_sum (call_view c) (multiplier (call_view c) n b parts) (λ r. coefficient x r.terms) (length (root_of c.g c.w).rows) more late ≡
        tied c (multiplier (call_view c) n b parts) (λ r. coefficient x r.terms) +ℤ opposed c (multiplier (call_view c) n b parts) (λ r. coefficient x r.terms)
    ties_alone x h z =
        let a = rows_added c returns o (multiplier (call_view c) n b parts) (λ r. coefficient x r.terms) in
        let m = no_cuts (call_view c) (multiplier (call_view c) n b parts) x (no_column c returns x h) (length (root_of c.g c.w).rows) more late f.cuts in
        omega (arith, ints, a, z, m)

    bounds_off_low : (x : ℕ) → x < width c → others (multiplier (call_view c) n b parts) (λ r. coefficient x r.terms) (bound_roles c) (map tightened (bounds (length (caller_in c)) (types_of (callee_in c)))) ≡ pos 0
    bounds_off_low x l =
        others_zero (multiplier (call_view c) n b parts) (λ r. coefficient x r.terms) (bound_roles c) (map tightened (bounds (length (caller_in c)) (types_of (callee_in c))))
        (tight_off x (bounds (length (caller_in c)) (types_of (callee_in c))) (bounds_above (length (caller_in c)) x (types_of (callee_in c)) (let a = caller_long c in omega (arith, l, a))))

    bounds_off_high : (x : ℕ) → width c + (heads c + (olds c + locals c)) ≤ x →
        others (multiplier (call_view c) n b parts) (λ r. coefficient x r.terms) (bound_roles c) (map tightened (bounds (length (caller_in c)) (types_of (callee_in c)))) ≡ pos 0
    bounds_off_high x l =
        let a = caller_long c in
        let m = length_types (callee_in c) in
        let k = callee_long c in
        others_zero (multiplier (call_view c) n b parts) (λ r. coefficient x r.terms) (bound_roles c) (map tightened (bounds (length (caller_in c)) (types_of (callee_in c))))
        (tight_off x (bounds (length (caller_in c)) (types_of (callee_in c)))
        (all_weaker (λ r. IsBelow (width c + (heads c + (olds c + locals c))) r.terms) (λ r. coefficient x r.terms ≡ pos 0) (λ r h. coefficient_above (width c + (heads c + (olds c + locals c))) x r.terms h l)
        (bounds (length (caller_in c)) (types_of (callee_in c))) (bounds_below (width c + (heads c + (olds c + locals c))) (length (caller_in c)) (types_of (callee_in c)) (omega (arith, a, m, k)))))

    -- at an old column or a local
    differ_at : (x : ℕ) → x < length (call_names c) → others (multiplier (call_view c) n b parts) (λ r. coefficient x r.terms) (call_first c).roles (call_first c).rows +ℤ
        own_sum (call_view c) (multiplier (call_view c) n b parts) (λ r. coefficient x r.terms) (length (root_of c.g c.w).rows) more late ≡
        (tied c (multiplier (call_view c) n b parts) (λ r. coefficient x r.terms) +ℤ opposed c (multiplier (call_view c) n b parts) (λ r. coefficient x r.terms)) +ℤ
        ((column_upto b parts (suc (2 * suc c.r.letters)) (slice_index (call_names c) x) -ℤ column_upto b parts (2 * suc c.r.letters) (slice_index (call_names c) x)) -ℤ
        entry_sum c parts (λ r. coefficient (slice_index (call_names c) x) r.terms))
    differ_at x l =
        let a = rows_added c returns o (multiplier (call_view c) n b parts) (λ r. coefficient x r.terms) in
        let d = bounds_add c (multiplier (call_view c) n b parts) (λ r. coefficient x r.terms) (λ r. coefficient (slice_index (call_names c) x) r.terms) (fits_at c o x l) in
        let e = cuts_same (call_view c) (multiplier (call_view c) n b parts) x (slice_index (call_names c) x) (column_of c returns x l) (length (root_of c.g c.w).rows) more late f.cuts in
        let w = window c returns more late n b parts f (λ r. coefficient (slice_index (call_names c) x) r.terms) in
        omega (arith, ints, a, d, e, w)

    target_known : (j : ℕ) (k : Option ℕ) → known_in (target_claim c).position.scope.known j ≡ k → target_sum c b parts j ≡
        column_upto b parts (suc (2 * suc c.r.letters)) (slice_index (entry_of c.g c.r c.callee c.helpers) j) -ℤ known_sum b parts (2 * suc c.r.letters) k
    target_known j k e =
        ap (λ (s : ℕ). column_upto b parts (suc (2 * suc c.r.letters)) (slice_index (entry_of c.g c.r c.callee c.helpers) j) -ℤ known_sum b parts s (known_in (target_claim c).position.scope.known j)) (target_own c returns) ∙
        ap (λ (o : Option ℕ). column_upto b parts (suc (2 * suc c.r.letters)) (slice_index (entry_of c.g c.r c.callee c.helpers) j) -ℤ known_sum b parts (2 * suc c.r.letters) o) e

    -- the target's sum at a global that may change, and at a constant
    at_variable : (j : ℕ) → j < heads c → Member (variables_of (callee_in c)) j → target_sum c b parts j ≡ column_upto b parts (suc (2 * suc c.r.letters)) (slice_index (call_names c) j)
    at_variable j l m =
        let p = at_place is_variable 0 (callee_in c) j m in
        let i : j ≡ p.0 = (let q = p.2 in omega (arith, q)) in
        let long = entry_long c in
        let k = callee_long c in
        let w = heads_within c in
        let known : known_in (target_claim c).position.scope.known j ≡ None =
        known_get (callee_in c) (entry_of c.g c.r c.callee c.helpers) c.r.stage.here j p.1 (ap (slice_get (callee_in c)) i ∙ p.3) (omega (arith, l, long, k)) ∙
        known_variable p.1 (slice_index (entry_of c.g c.r c.callee c.helpers) j) c.r.stage.here p.4 in
        let e = target_known j None known in
        let y : column_upto b parts (suc (2 * suc c.r.letters)) (slice_index (entry_of c.g c.r c.callee c.helpers) j) ≡ column_upto b parts (suc (2 * suc c.r.letters)) (slice_index (call_names c) j) =
        ap (column_upto b parts (suc (2 * suc c.r.letters))) (entry_global c j l ∙ sym (name_caller c j (omega (arith, l, w)))) in
        omega (arith, ints, e, y)

    at_constant : (j : ℕ) → j < heads c → Member (constants_of (callee_in c)) j → target_sum c b parts j ≡
        column_upto b parts (suc (2 * suc c.r.letters)) (slice_index (call_names c) j) -ℤ column_upto b parts (2 * suc c.r.letters) (slice_index (call_names c) j)
    at_constant j l m =
        let p = at_place is_fixed_column 0 (callee_in c) j m in
        let i : j ≡ p.0 = (let q = p.2 in omega (arith, q)) in
        let long = entry_long c in
        let k = callee_long c in
        let w = heads_within c in
        let known : known_in (target_claim c).position.scope.known j ≡ Some (slice_index (entry_of c.g c.r c.callee c.helpers) j) =
        known_get (callee_in c) (entry_of c.g c.r c.callee c.helpers) c.r.stage.here j p.1 (ap (slice_get (callee_in c)) i ∙ p.3) (omega (arith, l, long, k)) ∙
        known_constant p.1 (slice_index (entry_of c.g c.r c.callee c.helpers) j) c.r.stage.here p.4 in
        target_known j (Some (slice_index (entry_of c.g c.r c.callee c.helpers) j)) known ∙
        ap (λ (y : ℕ). column_upto b parts (suc (2 * suc c.r.letters)) y -ℤ column_upto b parts (2 * suc c.r.letters) y) (entry_global c j l ∙ sym (name_caller c j (omega (arith, l, w))))

    -- a constant is no variable
    not_variable : (j : ℕ) → Member (constants_of (callee_in c)) j → Member (variables_of (callee_in c)) j → ⊥
    not_variable j m h =
        let p = at_place is_fixed_column 0 (callee_in c) j m in
        let q = at_place is_variable 0 (callee_in c) j h in
        let i : p.0 ≡ q.0 = (let a = p.2 in let d = q.2 in omega (arith, a, d)) in
        let e : Some p.1 ≡ Some q.1 = sym p.3 ∙ ap (slice_get (callee_in c)) i ∙ q.3 in
        clash p.1 q.1 (same_one p.1 q.1 e) p.4 q.4
      where
        same_one : (u v : Column × VarInfo) → Some u ≡ Some v → u ≡ v
        same_one u v e = cc

        both : (x y : Bool) → (x && y) ≡ true → (x && not y) ≡ true → ⊥
        both true true e f = absurd (cc)
        both true false e f = absurd (cc)
        both false y e f = absurd (cc)

        clash : (u v : Column × VarInfo) → u ≡ v → is_fixed_column u ≡ true → is_variable v ≡ true → ⊥
        clash u v e a d = both (is_global_column v.0) v.1.constant (subst (λ (z : Column × VarInfo). is_fixed_column z ≡ true) e a) d

    by_head : (x : ℕ) → x < width c → (x < heads c) ⊎ (heads c ≤ x) →
        (others (multiplier (call_view c) n b parts) (λ r. coefficient x r.terms) (call_first c).roles (call_first c).rows +ℤ
        own_sum (call_view c) (multiplier (call_view c) n b parts) (λ r. coefficient x r.terms) (length (root_of c.g c.w).rows) more late) +ℤ columns_added (call_view c) b parts x 0 (call_view c).claims ≡ pos 0
    by_head x k (inr h) =
        let d = ties_alone x (inl (omega (arith, k))) (bounds_off_low x k) in
        let a = claims_add c returns b parts x in
        let t = target_off c b parts x (inl k) in
        let e = ties_elsewhere c (multiplier (call_view c) n b parts) x h (inl k) in
        let u = opposed_off c (multiplier (call_view c) n b parts) x (λ p q m. (let l = caller_long c in let g = q.global in ((λ r. omega (arith, r, k, l)), (λ r. omega (arith, r, g, h))))) in
        omega (arith, ints, d, a, t, e, u)
    by_head x k (inl h) = by_kind (variable_or_constant c.at.infos (callee_in c) (callee_in c) c.at.to_frame c.at.to_frame x h)
      where
        by_kind : Member (variables_of (callee_in c)) x ⊎ Member (constants_of (callee_in c)) x →
            (others (multiplier (call_view c) n b parts) (λ r. coefficient x r.terms) (call_first c).roles (call_first c).rows +ℤ
            own_sum (call_view c) (multiplier (call_view c) n b parts) (λ r. coefficient x r.terms) (length (root_of c.g c.w).rows) more late) +ℤ columns_added (call_view c) b parts x 0 (call_view c).claims ≡ pos 0
        by_kind (inl m) =
            let long = callee_long c in
            let p = (olds_in c).of x m in
            let d = ties_alone x (inl (omega (arith, k))) (bounds_off_low x k) in
            let a = claims_add c returns b parts x in
            let t = target_off c b parts x (inl k) in
            let e = ties_at_caller c (multiplier (call_view c) n b parts) x h in
            let g = tie_times c n b parts x (omega (arith, h, long)) in
            let u : opposed c (multiplier (call_view c) n b parts) (λ r. coefficient x r.terms) ≡ neg_ℤ (multiplier (call_view c) n b parts (opposite_tie x)) =
            subst (λ (y : ℕ). opposed c (multiplier (call_view c) n b parts) (λ r. coefficient y r.terms) ≡ neg_ℤ (multiplier (call_view c) n b parts (opposite_tie y))) p.2 (opposed_second c (multiplier (call_view c) n b parts) p.0 p.1) in
            let v = opposite_times c n b parts x (omega (arith, h, long)) in
            omega (arith, ints, d, a, t, e, g, u, v)
        by_kind (inr m) =
            let long = callee_long c in
            let d = ties_alone x (inl (omega (arith, k))) (bounds_off_low x k) in
            let a = claims_add c returns b parts x in
            let t = target_off c b parts x (inl k) in
            let e = ties_at_caller c (multiplier (call_view c) n b parts) x h in
            let g = tie_times c n b parts x (omega (arith, h, long)) in
            let u = opposed_off c (multiplier (call_view c) n b parts) x
            (λ p q s. (let l = caller_long c in ((λ r. omega (arith, r, k, l)), (λ r. not_variable x m (subst (Member (variables_of (callee_in c))) r (global_member p s)))))) in
            let w = global_window c returns o more late n b parts f x k in
            let z = passing_zero (is_own (call_view c)) (λ j. coefficient j parts) (λ r. coefficient (slice_index (call_names c) x) r.terms) (length (front_of c) + length (own_block c)) (entry_block c) (callee_now c (entry_block c))
            (named_off c (slice_index (call_names c) x) (olds_of (callee_in c)) (olds_at c) (λ p q s. ((λ r. apart p q r), (λ r. not_variable x m (subst (Member (variables_of (callee_in c))) (same_column p q r) (global_member p s)))))) in
            let y = at_constant x h m in
            omega (arith, ints, d, a, t, e, g, u, w, z, y)
          where
            global_member : (p : ℕ × ℕ) → Member (olds_of (callee_in c)) p → Member (variables_of (callee_in c)) p.1
            global_member p s = subst (λ (l : List ℕ). Member l p.1) (olds_of_variables c.at.infos (callee_in c) c.at.to_frame) (mapped (olds_of (callee_in c)) s)
              where
                mapped : (os : List (ℕ × ℕ)) → Member os p → Member (map (λ o. o.1) os) p.1
                mapped [] s = absurd s
                mapped (o ∷ os) (inl e) = inl (ap (λ (z : ℕ × ℕ). z.1) e)
                mapped (o ∷ os) (inr s) = inr (mapped os s)

            apart : (p : ℕ × ℕ) → IsOldAt c p → slice_index (call_names c) (width c + p.0) ≡ slice_index (call_names c) x → ⊥
            apart p q r =
                let e = q.column in
                let i = q.within in
                let l = call_names_count c in
                let s = call_names_differ c (width c + p.0) x (omega (arith, l, e, i)) (omega (arith, l, k)) r in
                omega (arith, s, k)

            same_column : (p : ℕ × ℕ) → IsOldAt c p → slice_index (call_names c) p.1 ≡ slice_index (call_names c) x → p.1 ≡ x
            same_column p q r =
                let g = q.global in
                let w = heads_within c in
                let l = call_names_count c in
                call_names_differ c p.1 x (omega (arith, l, g, w)) (omega (arith, l, k)) r

    old_known : (p : ℕ × ℕ) → Member (olds_of (callee_in c)) p → p.1 < width c → p.0 < length (callee_in c) → known_in (target_claim c).position.scope.known p.0 ≡ Some (slice_index c.r.stage.here p.1)
    old_known p m g l =
        let q = old_column 0 (callee_in c) p m in
        let i : p.0 ≡ q.0 = (let a = q.2 in omega (arith, a)) in
        let long = entry_long c in
        known_get (callee_in c) (entry_of c.g c.r c.callee c.helpers) c.r.stage.here p.0 q.1 (ap (slice_get (callee_in c)) i ∙ q.3) (omega (arith, l, long)) ∙
        ap (λ (d : Column). known_at d q.1.1.constant (slice_index (entry_of c.g c.r c.callee c.helpers) p.0) c.r.stage.here) q.4 ∙ slice_some c.r.stage.here p.1 g

    by_global : (x i : ℕ) → i < heads c → x ≡ width c + i →
        (others (multiplier (call_view c) n b parts) (λ r. coefficient x r.terms) (call_first c).roles (call_first c).rows +ℤ
        own_sum (call_view c) (multiplier (call_view c) n b parts) (λ r. coefficient x r.terms) (length (root_of c.g c.w).rows) more late) +ℤ columns_added (call_view c) b parts x 0 (call_view c).claims ≡ pos 0
    by_global x i k e =
        let long = callee_long c in
        let test : ℕ → Bool = is_own (call_view c) in
        let times : ℕ → ℤ = λ j. coefficient j parts in
        let q = bounds_add c (multiplier (call_view c) n b parts) (λ r. coefficient x r.terms) (λ r. pos 0) (fits_off c o x (inl (i, k, e))) in
        let z1 = passing_zero test times (λ r. pos 0) (length (front_of c) + length (own_block c) + length (entry_block c)) (local_block c) (callee_now c (local_block c)) (all_zero (local_block c)) in
        let z2 = passing_zero test times (λ r. pos 0) (length (front_of c) + length (own_block c) + length (entry_block c) + length (local_block c)) (old_block c) (callee_now c (old_block c)) (all_zero (old_block c)) in
        let d = ties_alone x (inl (omega (arith, e, k))) (omega (arith, ints, q, z1, z2)) in
        let a = claims_add c returns b parts x in
        let t = target_at c b parts x i e (omega (arith, k, long)) in
        let h = ties_at_callee c (multiplier (call_view c) n b parts) x i e k in
        let g = tie_times c n b parts i (omega (arith, k, long)) in
        let u = opposed_off c (multiplier (call_view c) n b parts) x
        (λ p r m. (let l = caller_long c in let y = r.column in let v = r.global in let w = heads_within c in ((λ s. omega (arith, s, y, e, k, l)), (λ s. omega (arith, s, v, w, e))))) in
        omega (arith, ints, d, a, t, h, g, u)
      where
        all_zero : (rows : List LinearRow) → AllByRecursion (λ r. pos 0 ≡ pos 0) rows
        all_zero [] = tt
        all_zero (r ∷ rows) = (refl, all_zero rows)

    not_parameter : (x j : ℕ) → x ≡ width c + j → j < heads c + olds c → MayName (caller_in c) (callee_in c) c.helpers x → ⊥
    not_parameter x j e l may =
        let a = caller_long c in
        let k = callee_long c in
        let p = may.parameter (omega (arith, e, a)) (omega (arith, e, a, k, l)) in
        let q = parameter_behind c.at.infos (callee_in c) c.at.to_frame (x - length (caller_in c)) p in
        omega (arith, q, e, a, l)

    by_old : (x i : ℕ) → x < length (call_names c) → i < olds c → x ≡ width c + (heads c + i) →
        (others (multiplier (call_view c) n b parts) (λ r. coefficient x r.terms) (call_first c).roles (call_first c).rows +ℤ
        own_sum (call_view c) (multiplier (call_view c) n b parts) (λ r. coefficient x r.terms) (length (root_of c.g c.w).rows) more late) +ℤ columns_added (call_view c) b parts x 0 (call_view c).claims ≡ pos 0
    by_old x i l k e =
        let long = callee_long c in
        let near = caller_long c in
        let w = heads_within c in
        let p = (olds_in c).at i k in
        let at : IsOldAt c p.0 = old_place c p.0 p.1 in
        let pe = p.2 in
        let pg = at.global in
        let here : x ≡ width c + p.0.0 = omega (arith, e, pe) in
        let tied_here : x ≡ length (caller_in c) + p.0.0 = omega (arith, here, near) in
        let d = differ_at x l in
        let a = claims_add c returns b parts x in
        let t = target_at c b parts x (heads c + i) e (omega (arith, k, long)) in
        let h = ties_elsewhere c (multiplier (call_view c) n b parts) x (omega (arith, e, w)) (inr (omega (arith, e))) in
        let u : opposed c (multiplier (call_view c) n b parts) (λ r. coefficient x r.terms) ≡ multiplier (call_view c) n b parts (opposite_tie p.0.1) =
        ap (λ (y : ℕ). opposed c (multiplier (call_view c) n b parts) (λ r. coefficient y r.terms)) tied_here ∙ opposed_first c (multiplier (call_view c) n b parts) p.0 p.1 in
        let v = opposite_times c n b parts p.0.1 (omega (arith, pg, long)) in
        let y_is : slice_index (call_names c) x ≡ made c + locals c + c.helpers + i = name_old c x i e k in
        let z : column_upto b parts (2 * suc c.r.letters) (slice_index (call_names c) x) ≡ pos 0 =
        new_at_call c more late n b parts f (slice_index (call_names c) x) (omega (arith, y_is)) (λ j m q. omega (arith, q, y_is, m))
        (own_named c x l (own_off c x (λ may. not_parameter x (heads c + i) e (omega (arith, k)) may))) in
        let known : known_in (target_claim c).position.scope.known (heads c + i) ≡ Some (slice_index c.r.stage.here p.0.1) =
        subst (λ (j : ℕ). known_in (target_claim c).position.scope.known j ≡ Some (slice_index c.r.stage.here p.0.1)) pe (old_known p.0 p.1 (omega (arith, pg, w)) (omega (arith, pe, k, long))) in
        let s = target_known (heads c + i) (Some (slice_index c.r.stage.here p.0.1)) known in
        let y1 : column_upto b parts (suc (2 * suc c.r.letters)) (slice_index (entry_of c.g c.r c.callee c.helpers) (heads c + i)) ≡ column_upto b parts (suc (2 * suc c.r.letters)) (slice_index (call_names c) x) =
        ap (column_upto b parts (suc (2 * suc c.r.letters))) (entry_old c (heads c + i) i refl k ∙ sym y_is) in
        let y2 : column_upto b parts (2 * suc c.r.letters) (slice_index (call_names c) p.0.1) ≡ column_upto b parts (2 * suc c.r.letters) (slice_index c.r.stage.here p.0.1) =
        ap (column_upto b parts (2 * suc c.r.letters)) (name_caller c p.0.1 (omega (arith, pg, w))) in
        let g1 = at_variable p.0.1 pg (subst (λ (q : List ℕ). Member q p.0.1) (olds_of_variables c.at.infos (callee_in c) c.at.to_frame) (mapped (olds_of (callee_in c)) p.0 p.1)) in
        let g2 = global_window c returns o more late n b parts f p.0.1 (omega (arith, pg, w)) in
        let cancel = entries_cancel c (is_own (call_view c)) (λ j. coefficient j parts) (suc (2 * suc c.r.letters)) p.0 at (length (front_of c) + length (own_block c)) (olds_of (callee_in c)) (olds_at c) p.1
        (olds_in c).firsts (olds_in c).seconds in
        let same : entry_sum c parts (λ r. coefficient (slice_index (call_names c) x) r.terms) ≡ entry_sum c parts (λ r. coefficient (slice_index (call_names c) (width c + p.0.0)) r.terms) =
        ap (λ (m : ℕ). entry_sum c parts (λ r. coefficient (slice_index (call_names c) m) r.terms)) here in
        omega (arith, ints, d, a, t, h, u, v, z, s, y1, y2, g1, g2, cancel, same)
      where
        mapped : (os : List (ℕ × ℕ)) (p : ℕ × ℕ) → Member os p → Member (map (λ o. o.1) os) p.1
        mapped [] p s = absurd s
        mapped (o ∷ os) p (inl e) = inl (ap (λ (z : ℕ × ℕ). z.1) e)
        mapped (o ∷ os) p (inr s) = inr (mapped os p s)

    by_local : (x i : ℕ) → x < length (call_names c) → i < locals c → x ≡ width c + (heads c + (olds c + i)) →
        (others (multiplier (call_view c) n b parts) (λ r. coefficient x r.terms) (call_first c).roles (call_first c).rows +ℤ
        own_sum (call_view c) (multiplier (call_view c) n b parts) (λ r. coefficient x r.terms) (length (root_of c.g c.w).rows) more late) +ℤ columns_added (call_view c) b parts x 0 (call_view c).claims ≡ pos 0
    by_local x i l k e =
        let j : ℕ = heads c + (olds c + i) in
        let q = at_place is_local 0 (callee_in c) j (subst (λ (xs : List ℕ). Member xs j) (sym (lay c).local_places) (from_member (heads c + olds c) (locals c) j (omega arith) (omega (arith, k)))) in
        let at : slice_get (callee_in c) j ≡ Some q.1 = ap (slice_get (callee_in c)) (let a = q.2 in let s : j ≡ q.0 = omega (arith, a) in s) ∙ q.3 in
        by_constant q.1 at (local_known q.1 q.4) q.1.1.constant refl
      where
        local_known : (v : Column × VarInfo) → is_local v ≡ true → (y : ℕ) (before : List ℕ) → known_at v.0 v.1.constant y before ≡ if_constant_version v.1.constant y
        local_known (d, info) h y before = by_column d h
          where
            by_column : (d : Column) → is_local (d, info) ≡ true → known_at d info.constant y before ≡ if_constant_version info.constant y
            by_column (Global g) h = refl
            by_column (Old g) h = absurd (cc)
            by_column (Local g) h = refl

        entry_none : entry_sum c parts (λ r. coefficient (slice_index (call_names c) x) r.terms) ≡ pos 0
        entry_none =
            passing_zero (is_own (call_view c)) (λ j. coefficient j parts) (λ r. coefficient (slice_index (call_names c) x) r.terms) (length (front_of c) + length (own_block c)) (entry_block c) (callee_now c (entry_block c))
            (named_off c (slice_index (call_names c) x) (olds_of (callee_in c)) (olds_at c) (λ p q m. ((λ r. apart_old p q r), (λ r. apart_global p q r))))
          where
            apart_old : (p : ℕ × ℕ) → IsOldAt c p → slice_index (call_names c) (width c + p.0) ≡ slice_index (call_names c) x → ⊥
            apart_old p q r =
                let f = q.column in
                let h = q.within in
                let m = call_names_count c in
                let s = call_names_differ c (width c + p.0) x (omega (arith, m, f, h)) l r in
                omega (arith, s, e, f, h)

            apart_global : (p : ℕ × ℕ) → IsOldAt c p → slice_index (call_names c) p.1 ≡ slice_index (call_names c) x → ⊥
            apart_global p q r =
                let g = q.global in
                let w = heads_within c in
                let m = call_names_count c in
                let s = call_names_differ c p.1 x (omega (arith, m, g, w)) l r in
                omega (arith, s, e, g, w)

        by_constant : (v : Column × VarInfo) → slice_get (callee_in c) (heads c + (olds c + i)) ≡ Some v → ((y : ℕ) (before : List ℕ) → known_at v.0 v.1.constant y before ≡ if_constant_version v.1.constant y) →
            (z : Bool) → v.1.constant ≡ z →
            (others (multiplier (call_view c) n b parts) (λ r. coefficient x r.terms) (call_first c).roles (call_first c).rows +ℤ
            own_sum (call_view c) (multiplier (call_view c) n b parts) (λ r. coefficient x r.terms) (length (root_of c.g c.w).rows) more late) +ℤ columns_added (call_view c) b parts x 0 (call_view c).claims ≡ pos 0
        by_constant v at known z ez =
            let long = callee_long c in
            let far = entry_long c in
            let w = heads_within c in
            let j : ℕ = heads c + (olds c + i) in
            let y : ℕ = slice_index (call_names c) x in
            let d = differ_at x l in
            let a = claims_add c returns b parts x in
            let t = target_at c b parts x j e (omega (arith, k, long)) in
            let h = ties_elsewhere c (multiplier (call_view c) n b parts) x (omega (arith, e, w)) (inr (omega (arith, e))) in
            let u = opposed_off c (multiplier (call_view c) n b parts) x
            (λ p r m. (let q = caller_long c in let f = r.column in let s = r.within in let g = r.global in ((λ s2. omega (arith, s2, f, s, e, q)), (λ s2. omega (arith, s2, g, w, e))))) in
            let none = entry_none in
            let known_is : known_in (target_claim c).position.scope.known j ≡ if_constant_version z (slice_index (entry_of c.g c.r c.callee c.helpers) j) =
            known_get (callee_in c) (entry_of c.g c.r c.callee c.helpers) c.r.stage.here j v at (omega (arith, k, far, long)) ∙ known (slice_index (entry_of c.g c.r c.callee c.helpers) j) c.r.stage.here ∙
            ap (λ (b : Bool). if_constant_version b (slice_index (entry_of c.g c.r c.callee c.helpers) j)) ez in
            let s = target_known j (if_constant_version z (slice_index (entry_of c.g c.r c.callee c.helpers) j)) known_is in
            let y1 : slice_index (entry_of c.g c.r c.callee c.helpers) j ≡ slice_index (call_names c) x = entry_local c j i refl k ∙ sym (name_local c x i e k) in
            let y2 : column_upto b parts (suc (2 * suc c.r.letters)) (slice_index (entry_of c.g c.r c.callee c.helpers) j) ≡ column_upto b parts (suc (2 * suc c.r.letters)) (slice_index (call_names c) x) =
            ap (column_upto b parts (suc (2 * suc c.r.letters))) y1 in
            let low : known_sum b parts (2 * suc c.r.letters) (if_constant_version z (slice_index (entry_of c.g c.r c.callee c.helpers) j)) ≡ column_upto b parts (2 * suc c.r.letters) (slice_index (call_names c) x) =
            low_sum v at z ez y1 in
            omega (arith, ints, d, a, t, h, u, none, s, y2, low)
          where
            low_sum : (v : Column × VarInfo) → slice_get (callee_in c) (heads c + (olds c + i)) ≡ Some v → (z : Bool) → v.1.constant ≡ z →
                slice_index (entry_of c.g c.r c.callee c.helpers) (heads c + (olds c + i)) ≡ slice_index (call_names c) x →
                known_sum b parts (2 * suc c.r.letters) (if_constant_version z (slice_index (entry_of c.g c.r c.callee c.helpers) (heads c + (olds c + i)))) ≡ column_upto b parts (2 * suc c.r.letters) (slice_index (call_names c) x)
            low_sum v at true ez y1 = ap (column_upto b parts (2 * suc c.r.letters)) y1
            low_sum v at false ez y1 =
                let y_is : slice_index (call_names c) x ≡ made c + i = name_local c x i e k in
                sym (new_at_call c more late n b parts f (slice_index (call_names c) x) (omega (arith, y_is)) (λ j m q. omega (arith, q, y_is, k)) (own_named c x l (own_off c x (λ may. not_named may))))
              where
                constant_too : (v : Column × VarInfo) → is_parameter v ≡ true → v.1.constant ≡ true
                constant_too (d, info) h = by_both (is_local (d, info)) info.constant h
                  where
                    by_both : (p q : Bool) → (p && q) ≡ true → q ≡ true
                    by_both true q h = h
                    by_both false q h = absurd (cc)

                clash : (u : Bool) → u ≡ true → u ≡ false → ⊥
                clash true e f = absurd (cc)
                clash false e f = absurd (cc)

                not_named : MayName (caller_in c) (callee_in c) c.helpers x → ⊥
                not_named may =
                    let near = caller_long c in
                    let long = callee_long c in
                    let place : x - length (caller_in c) ≡ heads c + (olds c + i) = omega (arith, e, near) in
                    let p = may.parameter (omega (arith, e, near)) (omega (arith, e, near, k, long)) in
                    let q : IsSomeAnd (Some v) (λ w. is_parameter w ≡ true) =
                    subst (λ (o : Option (Column × VarInfo)). IsSomeAnd o (λ w. is_parameter w ≡ true)) at (subst (λ (m : ℕ). IsSomeAnd (slice_get (callee_in c) m) (λ w. is_parameter w ≡ true)) place p) in
                    clash v.1.constant (constant_too v q) ez

    past_callee : (x : ℕ) → width c + (heads c + (olds c + locals c)) ≤ x →
        (others (multiplier (call_view c) n b parts) (λ r. coefficient x r.terms) (call_first c).roles (call_first c).rows +ℤ
        own_sum (call_view c) (multiplier (call_view c) n b parts) (λ r. coefficient x r.terms) (length (root_of c.g c.w).rows) more late) +ℤ columns_added (call_view c) b parts x 0 (call_view c).claims ≡ pos 0
    past_callee x l =
        let long = callee_long c in
        let w = heads_within c in
        let d = ties_alone x (inr l) (bounds_off_high x l) in
        let a = claims_add c returns b parts x in
        let t = target_off c b parts x (inr (omega (arith, l, long))) in
        let h = ties_elsewhere c (multiplier (call_view c) n b parts) x (omega (arith, l, w)) (inr (omega (arith, l))) in
        let u = opposed_off c (multiplier (call_view c) n b parts) x
        (λ p r m. (let q = caller_long c in let f = r.column in let s = r.within in let g = r.global in ((λ s2. omega (arith, s2, f, s, l, q)), (λ s2. omega (arith, s2, g, w, l))))) in
        omega (arith, ints, d, a, t, h, u)

    by_place : (x : ℕ) → x < length (call_names c) → CallPlace c x →
        (others (multiplier (call_view c) n b parts) (λ r. coefficient x r.terms) (call_first c).roles (call_first c).rows +ℤ
        own_sum (call_view c) (multiplier (call_view c) n b parts) (λ r. coefficient x r.terms) (length (root_of c.g c.w).rows) more late) +ℤ columns_added (call_view c) b parts x 0 (call_view c).claims ≡ pos 0
    by_place x l (of_caller k) = by_head x k (below_or x (heads c))
    by_place x l (of_global i k e) = by_global x i k e
    by_place x l (of_old i k e) = by_old x i l k e
    by_place x l (of_local i k e) = by_local x i l k e
    by_place x l (of_helper i k e) = past_callee x (omega (arith, e))

    by_width : (x : ℕ) → (x < length (call_names c)) ⊎ (length (call_names c) ≤ x) →
        (others (multiplier (call_view c) n b parts) (λ r. coefficient x r.terms) (call_first c).roles (call_first c).rows +ℤ
        own_sum (call_view c) (multiplier (call_view c) n b parts) (λ r. coefficient x r.terms) (length (root_of c.g c.w).rows) more late) +ℤ columns_added (call_view c) b parts x 0 (call_view c).claims ≡ pos 0
    by_width x (inl l) = by_place x l (call_place c x l)
    by_width x (inr l) = let m = call_names_count c in past_callee x (omega (arith, l, m))
