-- A call that does not return: its leaf adds up.
use Rattle.std.proofs.Common.{◌≡◌, ◌∙◌, ◌⊎◌, inl, inr, ℕ, suc, ◌+◌, ◌*◌, ◌<◌, ◌≤◌, ℤ, pos, neg_ℤ, ◌+ℤ◌, Bool, true, false, List, [], ◌∷◌, length, map, refl, sym, ap, subst, arith, Option, None, Some}
use Rattle.std.specs.Prelude.{not, ◌&&◌, slice_index, ◌-ℤ◌, if◌then◌else◌}
use Rattle.std.specs.List.{AllByRecursion}
use Rattle.std.proofs.lemmas.Int.{ints}
use Rattle.math_facts.specs.Terms.{coefficient, IsBelow}
use Rattle.nwa_base.specs.declared.letters.Kind.{Kind}
use Rattle.lin_rows.specs.Rows.{LinearRow}
use Rattle.lin_rows.specs.Negating.{below_opposite}
use Rattle.lin_rows.specs.Tightening.{tightened}
use Rattle.letter_acts.specs.Frames.{globals_of, olds_of}
use Rattle.path_rows.specs.Paths.{start_frame}
use Rattle.letter_acts.specs.FrameRows.Rows.{renamed, equal_row, types_of, bounds}
use Rattle.nested_itp.specs.NestedPredicates.Stamps.{column_stamp}
use Rattle.nested_itp.specs.NestedPredicates.Positions.{returned_by, has_return, innermost}
use Rattle.nested_itp.specs.NestedPredicates.Sums.{Branch, root_of, sum_upto, column_upto, bound_upto, known_sum, bound_at}
use Rattle.nested_itp.specs.NestedRefutations.Refutations.{Role, branch_row, target_tie, opposite_tie, atom_roles, is_used, multiplier}
use Rattle.nested_itp.specs.NestedRefutations.Numbers.{branch_rows, spares, before_bounds, bounds_in, Reading}
use Rattle.nested_itp.proofs.NestedRefutations.RowsLaws.{AllPairs}
use Rattle.nested_itp.proofs.NestedRefutations.WayLaws.{others, is_own, own_sum}
use Rattle.nested_itp.proofs.NestedRefutations.WindowLaws.{passing}
use Rattle.nested_itp.proofs.NestedRefutations.OwnLaws.{IsColumnOf, cuts_same, no_cuts, cut_bounds, own_parts, window_sum}
use Rattle.nested_itp.proofs.NestedRefutations.ClaimLaws.{columns_added, bounds_added, AddsUp}
use Rattle.nested_itp.proofs.NestedRefutations.ColumnLaws.{known_in, claim_at, claim_off}
use Rattle.nested_itp.proofs.NestedRefutations.MovingLaws.{below_or, rows_moved, rows_unnamed, bounds_moved, kinds_moved, bounds_below, coefficient_above}
use Rattle.nested_itp.proofs.NestedRefutations.ContentLaws.{tightened_off}
use Rattle.nested_itp.proofs.NestedRefutations.LeavesLaws.{LeafFacts}
use Rattle.nested_itp.proofs.NestedRefutations.VersionLaws.{places_differ, columns_count}
use Rattle.nested_itp.proofs.NestedRefutations.ReadLaws.{IsEarly}
use Rattle.nested_itp.proofs.NestedRefutations.InsideColumnLaws.{column_old}
use Rattle.nested_itp.proofs.NestedRefutations.GoneLaws.{below_at}
use Rattle.nested_itp.proofs.NestedRefutations.TieLaws.{ties_bound, equal_bound, equal_kind, other_coefficient}
use Rattle.nested_itp.proofs.NestedRefutations.AlongLaws.{first_reading, ReturnWhere, no_own}
use Rattle.nested_itp.proofs.NestedRefutations.InsideLeafLaws.{nothing_passes, all_weaker}
use Rattle.nested_itp.proofs.NestedRefutations.CallAtLaws.{entry_of}
use Rattle.nested_itp.proofs.NestedRefutations.CallColumnLaws.{CallLetter, caller_in, callee_in, width, heads, olds, locals, made, call_names, call_names_differ, call_view, call_root, call_first, caller_long, callee_long, call_names_count, name_caller, name_old, name_local, name_helper, CallPlace, of_caller, of_global, of_old, of_local, of_helper, call_place, heads_within, entry_global, entry_old, entry_local}
use Rattle.nested_itp.proofs.NestedRefutations.CallCutLaws.{low_of, call_own, MadeAt, before_it, as_local, as_helper, as_old, behind_it, made_at, column_local, column_helper, column_old_in}
use Rattle.nested_itp.proofs.NestedRefutations.CallRowLaws.{IsOldAt, olds_at, length_types, named_tie, own_rows_off, tie_moved, old_bounds, local_bounds, old_bounds_off, local_bounds_off}
use Rattle.nested_itp.proofs.NestedRefutations.CallSumLaws.{leaves_of, source_rows, target_rows, entry_block, call_block, call_now, front_of, call_early_front, call_now_counted, call_parted, call_leaf_counted, block_passes, source_claim, target_claim, global_ties, old_ties, caller_bounds, call_parts_add}
use Rattle.nested_itp.proofs.NestedRefutations.CallAddLaws.{CallRowsFit, CallRows, entry_pairs, call_rows, caller_first, bounds_add, frame_add, own_add, entry_add}
use Rattle.nested_itp.proofs.NestedRefutations.CallLeafLaws.{zero_sum, new_before, gone_after, pending_unnamed, entry_members, claim_sum, target_sum, target_at, target_off, tie_times, globals_tie, ties_at_caller, ties_at_callee, ties_elsewhere}

-- neither claim is false, and so on: the counts of the rows of its claims, and that its numbers fit
pub record CallOpens (c : CallLetter) : Type 0 where
  pub source_count : length (atom_roles (is_used (call_view c) 0) 0 (leaves_of c (source_claim c))) ≡ length (source_rows c)
  pub target_count : length (atom_roles (is_used (call_view c) 1) 1 (leaves_of c (target_claim c))) ≡ length (target_rows c)
  pub fits : CallRowsFit c

-- what the ties of globals add
abbrev pub tied : CallLetter → (Role → ℤ) → (LinearRow → ℤ) → ℤ
tied c val number = others val number (map target_tie (globals_of (callee_in c))) (global_ties c)

pub own_of : (c : CallLetter) → has_return 0 c.rest ≡ false → (innermost c.r.scopes).own ≡ 0
own_of c pending = no_own c.rest c.r.scopes (subst (λ (d : Kind). ReturnWhere (λ k. returned_by d k (λ m. has_return m c.rest)) 0 c.r.scopes) c.at.kind c.at.along.placed.returns) pending

-- all but the ties add the numbers of the rows of the word that are own
rows_added : (c : CallLetter) → has_return 0 c.rest ≡ false → CallOpens c → (val : Role → ℤ) (number other : LinearRow → ℤ) → CallRows c (λ r s. number r ≡ other s) →
    others val number (call_first c).roles (call_first c).rows ≡
    tied c val number +ℤ (passing (is_own (call_view c)) (λ j. val (branch_row j)) other 0 (front_of c) c.at.along.read.early +ℤ
    passing (is_own (call_view c)) (λ j. val (branch_row j)) other (length (front_of c)) (call_block c) (call_now c))
rows_added c pending o val number other same =
    let parts = call_parts_add c val number o.source_count o.target_count in
    let e : others val number (if has_return 0 c.rest then map (λ o. opposite_tie o.1) (olds_of (callee_in c)) else branch_rows (c.r.rows + length c.rows) (length (olds_of (callee_in c)))) (old_ties c) ≡
    others val number (branch_rows (c.r.rows + length c.rows) (length (olds_of (callee_in c)))) (old_ties c) =
    ap (λ (z : Bool). others val number (if z then map (λ o. opposite_tie o.1) (olds_of (callee_in c)) else branch_rows (c.r.rows + length c.rows) (length (olds_of (callee_in c)))) (old_ties c)) pending in
    let f : others val number (if has_return 0 c.rest then spares (length c.rows) else branch_rows c.r.rows (length c.rows)) (map tightened c.rows) ≡ others val number (branch_rows c.r.rows (length c.rows)) (map tightened c.rows) =
    ap (λ (z : Bool). others val number (if z then spares (length c.rows) else branch_rows c.r.rows (length c.rows)) (map tightened c.rows)) pending in
    let h : others val number (if has_return 0 c.rest then spares (bounds_in (caller_in c)) else before_bounds (suc c.r.letters) (caller_in c)) (caller_bounds c) ≡
    others val number (before_bounds (suc c.r.letters) (caller_in c)) (caller_bounds c) =
    ap (λ (z : Bool). others val number (if z then spares (bounds_in (caller_in c)) else before_bounds (suc c.r.letters) (caller_in c)) (caller_bounds c)) pending in
    let a = entry_add c val number other same in
    let b = own_add c pending val number other same in
    let d = frame_add c pending val number other same in
    let k = bounds_add c val number other same in
    let m = block_passes c (λ j. val (branch_row j)) other (length (front_of c)) in
    omega (arith, ints, parts, e, f, h, a, b, d, k, m)

all_stamps : (P : ℕ → Type 0) → ((s : ℕ) → P s) → (ss : List ℕ) → AllByRecursion P ss
all_stamps P f [] = tt
all_stamps P f (s ∷ ss) = (f s, all_stamps P f ss)

-- with the own cuts they add what the word's sum has more after the call
sums_differ : (c : CallLetter) → has_return 0 c.rest ≡ false → CallOpens c → (more : List LinearRow) (late : List ℕ) (n : ℕ) (b : Branch) (parts : List (ℕ × ℤ)) →
    LeafFacts (call_view c) (call_root c) more late n b parts → (number other : LinearRow → ℤ) → CallRows c (λ r s. number r ≡ other s) →
    own_sum (call_view c) (multiplier (call_view c) n b parts) number (length (root_of c.g c.w).rows) more late ≡
    passing (is_own (call_view c)) (λ j. coefficient j parts) other (length (root_of c.g c.w).rows) more late →
    others (multiplier (call_view c) n b parts) number (call_first c).roles (call_first c).rows +ℤ
    own_sum (call_view c) (multiplier (call_view c) n b parts) number (length (root_of c.g c.w).rows) more late ≡
    tied c (multiplier (call_view c) n b parts) number +ℤ (sum_upto b parts other (suc (2 * suc c.r.letters)) -ℤ sum_upto b parts other (suc (2 * c.r.letters)))
sums_differ c pending o more late n b parts f number other same cuts =
    let a = rows_added c pending o (multiplier (call_view c) n b parts) number other same in
    let d = own_parts (call_view c) (root_of c.g c.w) b (front_of c) (call_block c) c.at.along.read.early (call_now c) more late (call_parted c more late n b parts f) (λ j. coefficient j parts) other in
    let e = window_sum (call_view c) b parts other (suc (2 * c.r.letters)) (suc (2 * suc c.r.letters)) (omega arith) (call_leaf_counted c more late n b parts f) f.contradicts.each
    (all_stamps (λ s. (s < suc (suc (2 * c.r.letters)) → is_own (call_view c) s ≡ false) × (suc (2 * c.r.letters) < s → s < suc (suc (2 * suc c.r.letters)) → is_own (call_view c) s ≡ true) ×
    (suc (2 * suc c.r.letters) < s → is_own (call_view c) s ≡ false)) (λ s. owns s) b.stamps) in
    omega (arith, ints, a, cuts, d, e)
  where
    owns : (s : ℕ) → (s < suc (suc (2 * c.r.letters)) → is_own (call_view c) s ≡ false) × (suc (2 * c.r.letters) < s → s < suc (suc (2 * suc c.r.letters)) → is_own (call_view c) s ≡ true) ×
        (suc (2 * suc c.r.letters) < s → is_own (call_view c) s ≡ false)
    owns s = subst (λ (z : Bool). (s < suc (low_of z c.r.letters) → is_own (call_view c) s ≡ false) × (low_of z c.r.letters < s → s < suc (suc (2 * suc c.r.letters)) → is_own (call_view c) s ≡ true) ×
        (suc (2 * suc c.r.letters) < s → is_own (call_view c) s ≡ false)) pending (call_own c s)

-- ---- own cuts

-- the columns of own cuts: those that the call makes, and of the first letter those of the start
data OwnAt (c : CallLetter) (col : ℕ) : Type 0 where
  at_local : (i : ℕ) → i < locals c → col ≡ made c + i → OwnAt c col
  at_helper : (i : ℕ) → i < c.helpers → col ≡ made c + (locals c + i) → OwnAt c col
  at_old : (i : ℕ) → i < olds c → col ≡ made c + (locals c + c.helpers + i) → OwnAt c col
  at_start : c.r ≡ first_reading c.g → col < made c → OwnAt c col

not_both : (x : Bool) → x ≡ true → x ≡ false → ⊥
not_both true e f = absurd (cc)
not_both false e f = absurd (cc)

own_at : (c : CallLetter) → has_return 0 c.rest ≡ false → (col : ℕ) → col < length (call_view c).columns → is_own (call_view c) (column_stamp (call_view c).columns col) ≡ true → OwnAt c col
own_at c pending col l own = by_made (made_at c col l)
  where
    low : column_stamp (call_view c).columns col < suc (suc (2 * c.r.letters)) → ⊥
    low h = not_both (is_own (call_view c) (column_stamp (call_view c).columns col)) own
        ((call_own c (column_stamp (call_view c).columns col)).0 (subst (λ (z : Bool). column_stamp (call_view c).columns col < suc (low_of z c.r.letters)) (sym pending) h))

    by_begun : col < made c → IsEarly c.r.letters (column_stamp (call_view c).columns col) → ((c.r ≡ first_reading c.g) × (caller_in c ≡ start_frame c.g)) ⊎ (0 < c.r.letters) → OwnAt c col
    by_begun b e (inl f) = at_start f.0 b
    by_begun b (two, inl e) (inr n) = absurd (low (omega (arith, e, n)))
    by_begun b (two, inr e) (inr n) = absurd (low (omega (arith, e, n)))

    by_made : MadeAt c col (column_stamp (call_view c).columns col) → OwnAt c col
    by_made (before_it b e) = by_begun b e c.at.begun
    by_made (as_local i b e s) = at_local i b e
    by_made (as_helper i b e s) = at_helper i b e
    by_made (as_old i b e s) = at_old i b e
    by_made (behind_it b s) = absurd (not_both (is_own (call_view c) (column_stamp (call_view c).columns col)) own ((call_own c (column_stamp (call_view c).columns col)).2 (omega (arith, s))))

-- the place of a column in the system tells its version, and the version the place
pub record IsPlaced (c : CallLetter) (col x : ℕ) : Type 0 where
  pub within : x < length (call_names c)
  pub column : (call_view c).column col ≡ x
  pub version : slice_index (call_names c) x ≡ col
  pub is_head : width c ≤ x → x < width c + heads c → ⊥

placed : (c : CallLetter) (col : ℕ) → OwnAt c col → (x : ℕ) × IsPlaced c col x
placed c col (at_local i l e) =
    let n = call_names_count c in (
      width c + (heads c + (olds c + i)),
      record {
        within = omega (arith, n, l);
        column = column_local c col i e l;
        version = name_local c (width c + (heads c + (olds c + i))) i refl l ∙ sym e;
        is_head = λ a b. omega (arith, b);
      },
    )
placed c col (at_helper i l e) =
    let n = call_names_count c in (
      width c + (heads c + (olds c + locals c) + i),
      record {
        within = omega (arith, n, l);
        column = column_helper c col i e l;
        version = name_helper c (width c + (heads c + (olds c + locals c) + i)) i refl l ∙ (let q : made c + locals c + i ≡ col = omega (arith, e) in q);
        is_head = λ a b. omega (arith, b);
      },
    )
placed c col (at_old i l e) =
    let n = call_names_count c in (
      width c + (heads c + i),
      record {
        within = omega (arith, n, l);
        column = column_old_in c col i e l;
        version = name_old c (width c + (heads c + i)) i refl l ∙ (let q : made c + locals c + c.helpers + i ≡ col = omega (arith, e) in q);
        is_head = λ a b. omega (arith, b);
      },
    )
placed c col (at_start e l) =
    let n = call_names_count c in
    let w : made c ≡ width c = ap (λ (y : Reading). y.stage.made) e ∙ sym (ap (λ (y : Reading). length y.stage.here) e ∙ columns_count 0 (length (start_frame c.g))) in (
      col,
      record {
        within = omega (arith, n, l, w);
        column = column_old (made c) col _ l;
        version = caller_first c e col (omega (arith, l, w));
        is_head = λ a b. omega (arith, a, l, w);
      },
    )

call_column_of : (c : CallLetter) → has_return 0 c.rest ≡ false → (x : ℕ) → x < length (call_names c) → IsColumnOf (call_view c) x (slice_index (call_names c) x)
call_column_of c pending x l col within own =
    let p = placed c col (own_at c pending col within own) in (
      λ e. p.1.column ∙ call_names_differ c p.0 x p.1.within l (p.1.version ∙ e),
      λ e. sym p.1.version ∙ ap (slice_index (call_names c)) (sym p.1.column ∙ e),
    )

-- no own cut is at a global of the callee, nor at a column that the system does not have
call_no_column : (c : CallLetter) → has_return 0 c.rest ≡ false → (x : ℕ) → ((width c ≤ x) × (x < width c + heads c)) ⊎ (length (call_names c) ≤ x) →
    (col : ℕ) → col < length (call_view c).columns → is_own (call_view c) (column_stamp (call_view c).columns col) ≡ true → (call_view c).column col ≡ x → ⊥
call_no_column c pending x h col within own e =
    let p = placed c col (own_at c pending col within own) in
    by_place h p.1 (sym p.1.column ∙ e)
  where
    by_place : ((width c ≤ x) × (x < width c + heads c)) ⊎ (length (call_names c) ≤ x) → {y : ℕ} → IsPlaced c col y → y ≡ x → ⊥
    by_place (inl k) p q = let a = k.0 in let b = k.1 in p.is_head (omega (arith, a, q)) (omega (arith, b, q))
    by_place (inr k) p q = let a = p.within in omega (arith, a, q, k)

-- ---- its rows at a column

pub fits_at : (c : CallLetter) → CallOpens c → (x : ℕ) → x < length (call_names c) → CallRows c (λ r s. coefficient x r.terms ≡ coefficient (slice_index (call_names c) x) s.terms)
fits_at c o x l =
    call_rows c (λ r s. coefficient x r.terms ≡ coefficient (slice_index (call_names c) x) s.terms) o.fits (λ rows h k. rows_moved (call_names c) (call_names_differ c) x l rows h k)
    (λ p q. (let a = caller_long c in let n = call_names_count c in let e = q.column in let i = q.within in let g = q.global in let w = heads_within c in
    ap (λ (m : ℕ). coefficient x (tightened (equal_row (m + p.0) p.1)).terms) (sym a) ∙
    tie_moved (call_names c) (call_names_differ c) (width c + p.0) p.1 x (omega (arith, n, e, i)) (omega (arith, n, g, w)) l (λ q. omega (arith, q, e, g, w))))

-- an entry row has the same kind in the system and in the word
pub call_entry_kind : (c : CallLetter) (p : ℕ × ℕ) → IsOldAt c p → (tightened (equal_row (length (caller_in c) + p.0) p.1)).kind ≡ (tightened (named_tie c p)).kind
call_entry_kind c p q =
    let a = caller_long c in
    let e = q.column in
    let i = q.within in
    let g = q.global in
    let w = heads_within c in
    let m = call_names_count c in
    equal_kind (length (caller_in c) + p.0) p.1 (λ r. omega (arith, r, e, g, w, a)) ∙
    sym (equal_kind (slice_index (call_names c) (width c + p.0)) (slice_index (call_names c) p.1)
    (λ r. (let s = call_names_differ c (width c + p.0) p.1 (omega (arith, m, e, i)) (omega (arith, m, g, w)) r in omega (arith, s, e, g, w))))

-- and the same bound
pub call_entry_bound : (c : CallLetter) (p : ℕ × ℕ) → IsOldAt c p → (tightened (equal_row (length (caller_in c) + p.0) p.1)).bound ≡ (tightened (named_tie c p)).bound
call_entry_bound c p q =
    let a = caller_long c in
    let e = q.column in
    let i = q.within in
    let g = q.global in
    let w = heads_within c in
    let m = call_names_count c in
    equal_bound (length (caller_in c) + p.0) p.1 (λ r. omega (arith, r, e, g, w, a)) ∙
    sym (equal_bound (slice_index (call_names c) (width c + p.0)) (slice_index (call_names c) p.1)
    (λ r. (let s = call_names_differ c (width c + p.0) p.1 (omega (arith, m, e, i)) (omega (arith, m, g, w)) r in omega (arith, s, e, g, w))))

-- the rows that are no ties name no global of the callee, nor a column that the system does not have
pairs_first : {X Y : Type 0} (Q : X → Y → Type 0) (P : X → Type 0) (xs : List X) (ys : List Y) → AllPairs Q xs ys → AllByRecursion P xs → AllPairs (λ x y. P x) xs ys
pairs_first Q P [] [] h k = tt
pairs_first Q P [] (y ∷ ys) h k = absurd h
pairs_first Q P (x ∷ xs) [] h k = absurd h
pairs_first Q P (x ∷ xs) (y ∷ ys) h k = (k.0, pairs_first Q P xs ys h.1 k.1)

tight_off : (x : ℕ) (rows : List LinearRow) → AllByRecursion (λ r. coefficient x r.terms ≡ pos 0) rows → AllByRecursion (λ r. coefficient x r.terms ≡ pos 0) (map tightened rows)
tight_off x [] h = tt
tight_off x (r ∷ rows) h = (tightened_off x r h.0, tight_off x rows h.1)

-- nor do the bounds of the frame before it
frame_off : (c : CallLetter) → CallOpens c → (x : ℕ) → width c ≤ x → c.r ≡ first_reading c.g → caller_in c ≡ start_frame c.g → AllPairs (λ r s. coefficient x r.terms ≡ pos 0) (caller_bounds c) (front_of c)
frame_off c o x l e q =
    let same = (call_rows c (λ r s. r.kind ≡ s.kind) o.fits (λ rows h k. kinds_moved (call_names c) (call_names_differ c) rows h k) (λ p h. entry_kind p h)).frame e q in
    let a = caller_long c in
    let m = length_types (caller_in c) in
    pairs_first (λ r s. r.kind ≡ s.kind) (λ r. coefficient x r.terms ≡ pos 0) (caller_bounds c) (front_of c) same
    (tight_off x (bounds 0 (types_of (caller_in c)))
    (all_weaker (λ r. IsBelow (length (caller_in c)) r.terms) (λ r. coefficient x r.terms ≡ pos 0) (λ r h. coefficient_above (length (caller_in c)) x r.terms h (omega (arith, l, a)))
    (bounds 0 (types_of (caller_in c))) (bounds_below (length (caller_in c)) 0 (types_of (caller_in c)) (omega (arith, m)))))
  where
    entry_kind : (p : ℕ × ℕ) → IsOldAt c p → (tightened (equal_row (length (caller_in c) + p.0) p.1)).kind ≡ (tightened (named_tie c p)).kind
    entry_kind p h = call_entry_kind c p h

pub fits_off : (c : CallLetter) → CallOpens c → (x : ℕ) → ((i : ℕ) × (i < heads c) × (x ≡ width c + i)) ⊎ (length (call_names c) ≤ x) → CallRows c (λ r s. coefficient x r.terms ≡ pos 0)
fits_off c o x (inr l) =
    call_rows c (λ r s. coefficient x r.terms ≡ pos 0) o.fits (λ rows h k. rows_unnamed (call_names c) x l rows k)
    (λ p q. (let a = caller_long c in let n = call_names_count c in let e = q.column in let i = q.within in let g = q.global in let w = heads_within c in
    other_coefficient (length (caller_in c) + p.0) p.1 x (λ r. omega (arith, r, e, g, w, a)) (λ r. omega (arith, r, e, i, n, l, a)) (λ r. omega (arith, r, g, w, n, l))))
fits_off c o x (inl h) = record {
  own = off c.rows (subst (λ (y : ℕ). AllByRecursion (λ r. coefficient y r.terms ≡ pos 0) c.rows) (sym h.2) (own_rows_off c h.0 h.1));
  entry = entries;
  local = off (local_bounds c) (subst (λ (y : ℕ). AllByRecursion (λ r. coefficient y r.terms ≡ pos 0) (local_bounds c)) (sym h.2) (local_bounds_off c h.0 h.1));
  old = off (old_bounds c) (subst (λ (y : ℕ). AllByRecursion (λ r. coefficient y r.terms ≡ pos 0) (old_bounds c)) (sym h.2) (old_bounds_off c h.0 h.1));
  frame = λ e q. first_off e q;
}
  where
    off : (rows : List LinearRow) → AllByRecursion (λ r. coefficient x r.terms ≡ pos 0) rows →
        AllPairs (λ r s. coefficient x r.terms ≡ pos 0) (map tightened rows) (map tightened (map (renamed (slice_index (call_names c))) rows))
    off [] k = tt
    off (r ∷ rows) k = (tightened_off x r k.0, off rows k.1)

    entries : AllPairs (λ r s. coefficient x r.terms ≡ pos 0) (old_ties c) (entry_block c)
    entries = entry_pairs c (λ r s. coefficient x r.terms ≡ pos 0) (olds_of (callee_in c)) (olds_at c)
        (λ p q. (let a = caller_long c in let e = q.column in let g = q.global in let w = heads_within c in let y = h.2 in let b = h.1 in
        other_coefficient (length (caller_in c) + p.0) p.1 x (λ r. omega (arith, r, e, g, w, a)) (λ r. omega (arith, r, e, y, b, a)) (λ r. omega (arith, r, g, w, y))))

    first_off : c.r ≡ first_reading c.g → caller_in c ≡ start_frame c.g → AllPairs (λ r s. coefficient x r.terms ≡ pos 0) (caller_bounds c) (front_of c)
    first_off e q = frame_off c o x (let y = h.2 in omega (arith, y)) e q

-- ---- the sums

-- nothing is counted up to 0
known_zero : (c : CallLetter) (more : List LinearRow) (late : List ℕ) (n : ℕ) (b : Branch) (parts : List (ℕ × ℤ)) → LeafFacts (call_view c) (call_root c) more late n b parts →
    (own : ℕ) (k : Option ℕ) → own ≡ 0 → known_sum b parts own k ≡ pos 0
known_zero c more late n b parts f own None e = refl
known_zero c more late n b parts f own (Some v) e = ap (λ (s : ℕ). column_upto b parts s v) e ∙ zero_sum c more late n b parts f (λ r. coefficient v r.terms)

pub target_own : (c : CallLetter) → has_return 0 c.rest ≡ false → (target_claim c).position.scope.own ≡ 0
target_own c pending = ap (λ (z : Bool). if z then 2 * suc c.r.letters else 0) pending

-- the two claims
used_source : (c : CallLetter) → has_return 0 c.rest ≡ false → is_used (call_view c) 0 ≡ true
used_source c pending = ap (λ (z : Bool). not (z && true)) pending

pub used_target : (c : CallLetter) → is_used (call_view c) 1 ≡ true
used_target c = by_test (has_return 0 c.rest)
  where
    by_test : (z : Bool) → not (z && false) ≡ true
    by_test true = refl
    by_test false = refl

claims_add : (c : CallLetter) → has_return 0 c.rest ≡ false → (b : Branch) (parts : List (ℕ × ℤ)) (x : ℕ) →
    columns_added (call_view c) b parts x 0 (call_view c).claims ≡ claim_sum (source_claim c) b parts x +ℤ neg_ℤ (claim_sum (target_claim c) b parts x)
claims_add c pending b parts x =
    let s : ℤ = claim_sum (source_claim c) b parts x in
    let t : ℤ = neg_ℤ (claim_sum (target_claim c) b parts x) in
    let p : (if is_used (call_view c) 0 then s else pos 0) ≡ s = ap (λ (z : Bool). if z then s else pos 0) (used_source c pending) in
    let q : (if is_used (call_view c) 1 then t else pos 0) ≡ t = ap (λ (z : Bool). if z then t else pos 0) (used_target c) in
    omega (arith, ints, p, q)

claims_bound : (c : CallLetter) → has_return 0 c.rest ≡ false → (b : Branch) (parts : List (ℕ × ℤ)) →
    bounds_added (call_view c) b parts 0 (call_view c).claims ≡ bound_at b parts (source_claim c).position +ℤ below_opposite (bound_at b parts (target_claim c).position)
claims_bound c pending b parts =
    let s : ℤ = bound_at b parts (source_claim c).position in
    let t : ℤ = below_opposite (bound_at b parts (target_claim c).position) in
    let p : (if is_used (call_view c) 0 then s else pos 0) ≡ s = ap (λ (z : Bool). if z then s else pos 0) (used_source c pending) in
    let q : (if is_used (call_view c) 1 then t else pos 0) ≡ t = ap (λ (z : Bool). if z then t else pos 0) (used_target c) in
    omega (arith, ints, p, q)

pub source_off : (c : CallLetter) (b : Branch) (parts : List (ℕ × ℤ)) (x : ℕ) → width c ≤ x → claim_sum (source_claim c) b parts x ≡ pos 0
source_off c b parts x l = claim_off (source_claim c) b parts x (λ j k e. omega (arith, l, k, e))

-- ---- the leaf

pub pending_adds : (c : CallLetter) → has_return 0 c.rest ≡ false → CallOpens c → (more : List LinearRow) (late : List ℕ) (n : ℕ) (b : Branch) (parts : List (ℕ × ℤ)) →
    LeafFacts (call_view c) (call_root c) more late n b parts → AddsUp (call_view c) (call_root c) (call_first c) more late n b parts
pending_adds c pending o more late n b parts f = record {
  columns = λ x. by_width x (below_or x (length (call_names c)));
  bound =
      (let d = sums_differ c pending o more late n b parts f (λ r. r.bound) (λ r. r.bound)
      (call_rows c (λ r s. r.bound ≡ s.bound) o.fits (λ rows h k. bounds_moved (call_names c) (call_names_differ c) rows h k) (λ p q. call_entry_bound c p q))
      (cut_bounds (call_view c) (multiplier (call_view c) n b parts) (length (root_of c.g c.w).rows) more late) in
      let t = ties_bound (multiplier (call_view c) n b parts) target_tie (λ x. length (caller_in c) + x) (λ x. x) (globals_of (callee_in c)) (globals_tie c) in
      let k = claims_bound c pending b parts in
      let z : bound_upto b parts (source_claim c).position.scope.own ≡ pos 0 = ap (bound_upto b parts) (own_of c pending) ∙ zero_sum c more late n b parts f (λ r. r.bound) in
      let y : bound_upto b parts (target_claim c).position.scope.own ≡ pos 0 = ap (bound_upto b parts) (target_own c pending) ∙ zero_sum c more late n b parts f (λ r. r.bound) in
      omega (arith, ints, d, t, k, z, y));
}
  where
    differ_at : (x : ℕ) → x < length (call_names c) → others (multiplier (call_view c) n b parts) (λ r. coefficient x r.terms) (call_first c).roles (call_first c).rows +ℤ
        own_sum (call_view c) (multiplier (call_view c) n b parts) (λ r. coefficient x r.terms) (length (root_of c.g c.w).rows) more late ≡
        tied c (multiplier (call_view c) n b parts) (λ r. coefficient x r.terms) +ℤ
        (column_upto b parts (suc (2 * suc c.r.letters)) (slice_index (call_names c) x) -ℤ column_upto b parts (suc (2 * c.r.letters)) (slice_index (call_names c) x))
    differ_at x l =
        sums_differ c pending o more late n b parts f (λ r. coefficient x r.terms) (λ r. coefficient (slice_index (call_names c) x) r.terms) (fits_at c o x l)
        (cuts_same (call_view c) (multiplier (call_view c) n b parts) x (slice_index (call_names c) x) (call_column_of c pending x l) (length (root_of c.g c.w).rows) more late f.cuts)

    -- where no row but ties names the column, and no own cut is at it
    ties_alone : (x : ℕ) → ((i : ℕ) × (i < heads c) × (x ≡ width c + i)) ⊎ (length (call_names c) ≤ x) → others (multiplier (call_view c) n b parts) (λ r. coefficient x r.terms) (call_first c).roles (call_first c).rows +ℤ
        own_sum (call_view c) (multiplier (call_view c) n b parts) (λ r. coefficient x r.terms) (length (root_of c.g c.w).rows) more late ≡
        tied c (multiplier (call_view c) n b parts) (λ r. coefficient x r.terms)
    ties_alone x h =
        let a = rows_added c pending o (multiplier (call_view c) n b parts) (λ r. coefficient x r.terms) (λ r. pos 0) (fits_off c o x h) in
        let d = nothing_passes (is_own (call_view c)) (λ j. coefficient j parts) 0 (front_of c) c.at.along.read.early (call_early_front c) in
        let e = nothing_passes (is_own (call_view c)) (λ j. coefficient j parts) (length (front_of c)) (call_block c) (call_now c) (call_now_counted c) in
        let m = no_cuts (call_view c) (multiplier (call_view c) n b parts) x (call_no_column c pending x (in_window h)) (length (root_of c.g c.w).rows) more late f.cuts in
        omega (arith, ints, a, d, e, m)
      where
        in_window : ((i : ℕ) × (i < heads c) × (x ≡ width c + i)) ⊎ (length (call_names c) ≤ x) → ((width c ≤ x) × (x < width c + heads c)) ⊎ (length (call_names c) ≤ x)
        in_window (inl k) = let b = k.1 in let e = k.2 in inl (omega (arith, e), omega (arith, b, e))
        in_window (inr k) = inr k

    target_is : (j : ℕ) → target_sum c b parts j ≡ column_upto b parts (suc (2 * suc c.r.letters)) (slice_index (entry_of c.g c.r c.callee c.helpers) j)
    target_is j =
        let z = known_zero c more late n b parts f (target_claim c).position.scope.own (known_in (target_claim c).position.scope.known j) (target_own c pending) in
        let s : ℤ = column_upto b parts (suc (2 * suc c.r.letters)) (slice_index (entry_of c.g c.r c.callee c.helpers) j) in
        omega (arith, ints, z)

    source_at : (x : ℕ) → x < width c → claim_sum (source_claim c) b parts x ≡ column_upto b parts (suc (2 * c.r.letters)) (slice_index c.r.stage.here x)
    source_at x l =
        let z = known_zero c more late n b parts f (innermost c.r.scopes).own (known_in (innermost c.r.scopes).known x) (own_of c pending) in
        let e = claim_at (source_claim c) b parts (λ i j a k q. q) x l in
        omega (arith, ints, z, e)

    by_head : (x : ℕ) → x < length (call_names c) → x < width c → (x < heads c) ⊎ (heads c ≤ x) →
        (others (multiplier (call_view c) n b parts) (λ r. coefficient x r.terms) (call_first c).roles (call_first c).rows +ℤ
        own_sum (call_view c) (multiplier (call_view c) n b parts) (λ r. coefficient x r.terms) (length (root_of c.g c.w).rows) more late) +ℤ columns_added (call_view c) b parts x 0 (call_view c).claims ≡ pos 0
    by_head x l k (inl h) =
        let m = callee_long c in
        let d = differ_at x l in
        let a = claims_add c pending b parts x in
        let s = source_at x k in
        let t = target_off c b parts x (inl k) in
        let e = ties_at_caller c (multiplier (call_view c) n b parts) x h in
        let g = tie_times c n b parts x (omega (arith, h, m)) in
        let q = target_is x in
        let y : column_upto b parts (suc (2 * suc c.r.letters)) (slice_index (entry_of c.g c.r c.callee c.helpers) x) ≡ column_upto b parts (suc (2 * suc c.r.letters)) (slice_index c.r.stage.here x) =
        ap (column_upto b parts (suc (2 * suc c.r.letters))) (entry_global c x h) in
        let u : column_upto b parts (suc (2 * suc c.r.letters)) (slice_index (call_names c) x) ≡ column_upto b parts (suc (2 * suc c.r.letters)) (slice_index c.r.stage.here x) =
        ap (column_upto b parts (suc (2 * suc c.r.letters))) (name_caller c x k) in
        let v : column_upto b parts (suc (2 * c.r.letters)) (slice_index (call_names c) x) ≡ column_upto b parts (suc (2 * c.r.letters)) (slice_index c.r.stage.here x) =
        ap (column_upto b parts (suc (2 * c.r.letters))) (name_caller c x k) in
        omega (arith, ints, d, a, s, t, e, g, q, y, u, v)
    by_head x l k (inr h) =
        let d = differ_at x l in
        let a = claims_add c pending b parts x in
        let s = source_at x k in
        let t = target_off c b parts x (inl k) in
        let e = ties_elsewhere c (multiplier (call_view c) n b parts) x h (inl k) in
        let below : slice_index c.r.stage.here x < made c = below_at (made c) c.r.stage.here x c.at.versions.below k in
        let z : column_upto b parts (suc (2 * suc c.r.letters)) (slice_index c.r.stage.here x) ≡ pos 0 =
        gone_after c more late n b parts f (slice_index c.r.stage.here x) (omega (arith, below))
        (pending_unnamed c pending (slice_index c.r.stage.here x) (omega (arith, below)) (λ m. not_entered below (entry_members c (slice_index c.r.stage.here x) m))) in
        let u : column_upto b parts (suc (2 * suc c.r.letters)) (slice_index (call_names c) x) ≡ column_upto b parts (suc (2 * suc c.r.letters)) (slice_index c.r.stage.here x) =
        ap (column_upto b parts (suc (2 * suc c.r.letters))) (name_caller c x k) in
        let v : column_upto b parts (suc (2 * c.r.letters)) (slice_index (call_names c) x) ≡ column_upto b parts (suc (2 * c.r.letters)) (slice_index c.r.stage.here x) =
        ap (column_upto b parts (suc (2 * c.r.letters))) (name_caller c x k) in
        omega (arith, ints, d, a, s, t, e, z, u, v)
      where
        not_entered : slice_index c.r.stage.here x < made c →
            ((j : ℕ) × (j < heads c) × (slice_index c.r.stage.here j ≡ slice_index c.r.stage.here x)) ⊎
            ((made c ≤ slice_index c.r.stage.here x) × ((slice_index c.r.stage.here x < made c + locals c) ⊎ (made c + locals c + c.helpers ≤ slice_index c.r.stage.here x))) → ⊥
        not_entered below (inl m) =
            let j = m.1 in
            let w = heads_within c in
            let same : m.0 ≡ x = places_differ c.r.stage.here c.at.versions.differ m.0 x (omega (arith, j, w)) k m.2 in
            omega (arith, same, j, h)
        not_entered below (inr m) = let y = m.0 in omega (arith, y, below)

    by_place : (x : ℕ) → x < length (call_names c) → CallPlace c x →
        (others (multiplier (call_view c) n b parts) (λ r. coefficient x r.terms) (call_first c).roles (call_first c).rows +ℤ
        own_sum (call_view c) (multiplier (call_view c) n b parts) (λ r. coefficient x r.terms) (length (root_of c.g c.w).rows) more late) +ℤ columns_added (call_view c) b parts x 0 (call_view c).claims ≡ pos 0
    by_place x l (of_caller k) = by_head x l k (below_or x (heads c))
    by_place x l (of_global i k e) =
        let m = callee_long c in
        let d = ties_alone x (inl (i, k, e)) in
        let a = claims_add c pending b parts x in
        let s = source_off c b parts x (omega (arith, e)) in
        let t = target_at c b parts x i e (omega (arith, k, m)) in
        let h = ties_at_callee c (multiplier (call_view c) n b parts) x i e k in
        let g = tie_times c n b parts i (omega (arith, k, m)) in
        omega (arith, ints, d, a, s, t, h, g)
    by_place x l (of_old i k e) =
        let m = callee_long c in
        let d = differ_at x l in
        let a = claims_add c pending b parts x in
        let s = source_off c b parts x (omega (arith, e)) in
        let t = target_at c b parts x (heads c + i) e (omega (arith, k, m)) in
        let w = heads_within c in
        let h = ties_elsewhere c (multiplier (call_view c) n b parts) x (omega (arith, e, w)) (inr (omega (arith, e))) in
        let q = target_is (heads c + i) in
        let u : column_upto b parts (suc (2 * suc c.r.letters)) (slice_index (entry_of c.g c.r c.callee c.helpers) (heads c + i)) ≡ column_upto b parts (suc (2 * suc c.r.letters)) (slice_index (call_names c) x) =
        ap (column_upto b parts (suc (2 * suc c.r.letters))) (entry_old c (heads c + i) i refl k ∙ sym (name_old c x i e k)) in
        let v : slice_index (call_names c) x ≡ made c + locals c + c.helpers + i = name_old c x i e k in
        let z = new_before c more late n b parts f (slice_index (call_names c) x) (omega (arith, v)) in
        omega (arith, ints, d, a, s, t, h, q, u, z)
    by_place x l (of_local i k e) =
        let m = callee_long c in
        let d = differ_at x l in
        let a = claims_add c pending b parts x in
        let s = source_off c b parts x (omega (arith, e)) in
        let t = target_at c b parts x (heads c + (olds c + i)) e (omega (arith, k, m)) in
        let w = heads_within c in
        let h = ties_elsewhere c (multiplier (call_view c) n b parts) x (omega (arith, e, w)) (inr (omega (arith, e))) in
        let q = target_is (heads c + (olds c + i)) in
        let u : column_upto b parts (suc (2 * suc c.r.letters)) (slice_index (entry_of c.g c.r c.callee c.helpers) (heads c + (olds c + i))) ≡ column_upto b parts (suc (2 * suc c.r.letters)) (slice_index (call_names c) x) =
        ap (column_upto b parts (suc (2 * suc c.r.letters))) (entry_local c (heads c + (olds c + i)) i refl k ∙ sym (name_local c x i e k)) in
        let v : slice_index (call_names c) x ≡ made c + i = name_local c x i e k in
        let z = new_before c more late n b parts f (slice_index (call_names c) x) (omega (arith, v)) in
        omega (arith, ints, d, a, s, t, h, q, u, z)
    by_place x l (of_helper i k e) =
        let m = callee_long c in
        let d = differ_at x l in
        let a = claims_add c pending b parts x in
        let s = source_off c b parts x (omega (arith, e)) in
        let t = target_off c b parts x (inr (omega (arith, e, m))) in
        let w = heads_within c in
        let h = ties_elsewhere c (multiplier (call_view c) n b parts) x (omega (arith, e, w)) (inr (omega (arith, e))) in
        let v : slice_index (call_names c) x ≡ made c + locals c + i = name_helper c x i e k in
        let z = new_before c more late n b parts f (slice_index (call_names c) x) (omega (arith, v)) in
        let y = gone_after c more late n b parts f (slice_index (call_names c) x) (omega (arith, v, k))
        (pending_unnamed c pending (slice_index (call_names c) x) (omega (arith, v, k)) (λ p. not_entered v (entry_members c (slice_index (call_names c) x) p))) in
        omega (arith, ints, d, a, s, t, h, z, y)
      where
        not_entered : slice_index (call_names c) x ≡ made c + locals c + i →
            ((j : ℕ) × (j < heads c) × (slice_index c.r.stage.here j ≡ slice_index (call_names c) x)) ⊎
            ((made c ≤ slice_index (call_names c) x) × ((slice_index (call_names c) x < made c + locals c) ⊎ (made c + locals c + c.helpers ≤ slice_index (call_names c) x))) → ⊥
        not_entered v (inl p) =
            let j = p.1 in
            let w = heads_within c in
            let q = below_at (made c) c.r.stage.here p.0 c.at.versions.below (omega (arith, j, w)) in
            let r = p.2 in
            omega (arith, v, q, r)
        not_entered v (inr (p, inl q)) = omega (arith, v, q)
        not_entered v (inr (p, inr q)) = omega (arith, v, q, k)

    by_width : (x : ℕ) → (x < length (call_names c)) ⊎ (length (call_names c) ≤ x) →
        (others (multiplier (call_view c) n b parts) (λ r. coefficient x r.terms) (call_first c).roles (call_first c).rows +ℤ
        own_sum (call_view c) (multiplier (call_view c) n b parts) (λ r. coefficient x r.terms) (length (root_of c.g c.w).rows) more late) +ℤ columns_added (call_view c) b parts x 0 (call_view c).claims ≡ pos 0
    by_width x (inl l) = by_place x l (call_place c x l)
    by_width x (inr l) =
        let m = call_names_count c in
        let k = callee_long c in
        let w = heads_within c in
        let d = ties_alone x (inr l) in
        let a = claims_add c pending b parts x in
        let s = source_off c b parts x (omega (arith, l, m)) in
        let t = target_off c b parts x (inr (omega (arith, l, m, k))) in
        let h = ties_elsewhere c (multiplier (call_view c) n b parts) x (omega (arith, l, m, w)) (inr (omega (arith, l, m))) in
        omega (arith, ints, d, a, s, t, h)
