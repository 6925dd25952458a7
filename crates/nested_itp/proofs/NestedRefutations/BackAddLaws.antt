-- What the call's rows in a return's system add with the own cuts: what the word's sums have more after the call's own rows.
use Rattle.std.proofs.Common.{◌≡◌, ◌∙◌, ◌⊎◌, inl, inr, ℕ, suc, ◌+◌, ◌*◌, ◌<◌, ◌≤◌, ℤ, pos, ◌+ℤ◌, Bool, true, false, List, [], ◌∷◌, ◌++◌, length, map, refl, sym, ap, subst, arith, append_assoc, length-append}
use Rattle.std.specs.Prelude.{◌-ℤ◌, if◌then◌else◌}
use Rattle.std.specs.List.{AllByRecursion}
use Rattle.std.proofs.lemmas.Int.{ints}
use Rattle.std.proofs.lemmas.Bool.{ne_eqb, eq-eqb}
use Rattle.std.proofs.lemmas.List.{length-map}
use Rattle.math_facts.specs.Terms.{coefficient, IsBelow}
use Rattle.lin_rows.specs.Rows.{LinearRow}
use Rattle.lin_rows.specs.Tightening.{tightened}
use Rattle.path_rows.specs.Paths.{repeated, start_frame}
use Rattle.letter_acts.specs.FrameRows.Rows.{bounds, types_of}
use Rattle.nested_itp.specs.NestedPredicates.Sums.{Branch, root_of, sum_upto, column_upto, bound_upto}
use Rattle.nested_itp.specs.NestedRefutations.Refutations.{Role, branch_row, multiplier}
use Rattle.nested_itp.specs.NestedRefutations.Numbers.{branch_rows, spares, before_bounds, bounds_in, Reading}
use Rattle.nested_itp.proofs.NestedRefutations.RowsLaws.{AllPairs}
use Rattle.nested_itp.proofs.NestedRefutations.WayLaws.{others, is_own, own_sum}
use Rattle.nested_itp.proofs.NestedRefutations.WindowLaws.{passing, none_passes}
use Rattle.nested_itp.proofs.NestedRefutations.OwnLaws.{IsColumnOf, IsCutAt, Parted, cuts_same, no_cuts, cut_bounds, own_parts, window_sum}
use Rattle.nested_itp.proofs.NestedRefutations.AddingLaws.{spares_add, rows_add}
use Rattle.nested_itp.proofs.NestedRefutations.NamesLaws.{all_joined}
use Rattle.nested_itp.proofs.NestedRefutations.ReadLaws.{IsEarly}
use Rattle.nested_itp.proofs.NestedRefutations.MovingLaws.{all_parted, bounds_below, coefficient_above}
use Rattle.nested_itp.proofs.NestedRefutations.LeavesLaws.{LeafFacts}
use Rattle.nested_itp.proofs.NestedRefutations.AlongLaws.{first_reading}
use Rattle.nested_itp.proofs.NestedRefutations.InsideColumnLaws.{length-repeated, all_repeated}
use Rattle.nested_itp.proofs.NestedRefutations.InsideLeafLaws.{all_weaker}
use Rattle.nested_itp.proofs.NestedRefutations.CallColumnLaws.{CallLetter, caller_in, call_view, call_root}
use Rattle.nested_itp.proofs.NestedRefutations.CallRowLaws.{bounds_above, length_types}
use Rattle.nested_itp.proofs.NestedRefutations.CallSumLaws.{own_block, entry_block, local_block, old_block, callee_now, own_now, call_now, front_of, later_rows, later_stamps, call_root_rows, call_root_stamps, call_later_within, call_early_front, call_now_counted, call_later_counted, call_leaf_counted}
use Rattle.nested_itp.proofs.NestedRefutations.ReturningLaws.{others_zero, tight_off}
use Rattle.nested_itp.proofs.NestedRefutations.BackColumnLaws.{BackLetter, m_of, n_of, w_of, back_view, back_root, call_earlier}
use Rattle.nested_itp.proofs.NestedRefutations.BackCutLaws.{back_own, IsApart, root_apart, column_apart, no_column}
use Rattle.nested_itp.proofs.NestedRefutations.BackRowLaws.{back_own_rows, back_frame, BackRows}
use Rattle.nested_itp.proofs.NestedRefutations.BackSumLaws.{own_roles, frame_roles, own_counted, frame_counted}

-- the facts of a leaf are those that its call's triple would have
pub as_call : (c : BackLetter) (more : List LinearRow) (late : List ℕ) (n : ℕ) (b : Branch) (parts : List (ℕ × ℤ)) → LeafFacts (back_view c) (back_root c) more late n b parts →
    LeafFacts (call_view c.call) (call_root c.call) more late n b parts
as_call c more late n b parts f = record { rows = f.rows; stamps = f.stamps; cuts = f.cuts; contradicts = f.contradicts }

pub back_leaf_counted : (c : BackLetter) (more : List LinearRow) (late : List ℕ) (n : ℕ) (b : Branch) (parts : List (ℕ × ℤ)) → LeafFacts (back_view c) (back_root c) more late n b parts → length b.stamps ≡ length b.rows
back_leaf_counted c more late n b parts f = call_leaf_counted c.call more late n b parts (as_call c more late n b parts f)

-- ---- the stamps of a branch

late_apart : (c : BackLetter) (more : List LinearRow) (late : List ℕ) → AllPairs (IsCutAt (back_view c).columns) more late → AllByRecursion (IsApart c.r.letters) late
late_apart c [] [] h = tt
late_apart c [] (s ∷ late) h = absurd h
late_apart c (r ∷ more) [] h = absurd h
late_apart c (r ∷ more) (s ∷ late) h = (subst (IsApart c.r.letters) (sym h.0.stamp_is) (column_apart c h.0.column h.0.below), late_apart c more late h.1)

pub branch_apart : (c : BackLetter) (more : List LinearRow) (late : List ℕ) (n : ℕ) (b : Branch) (parts : List (ℕ × ℤ)) → LeafFacts (back_view c) (back_root c) more late n b parts → AllByRecursion (IsApart c.r.letters) b.stamps
branch_apart c more late n b parts f =
    subst (AllByRecursion (IsApart c.r.letters)) (sym f.stamps) (all_joined (IsApart c.r.letters) (root_of c.call.g c.call.w).stamps late (root_apart c) (late_apart c more late f.cuts))

-- ---- the rows of the branch in parts: the call's own rows, and all that is not own behind them

both : (P Q : ℕ → Type 0) (ss : List ℕ) → AllByRecursion P ss → AllByRecursion Q ss → AllByRecursion (λ s. P s × Q s) ss
both P Q [] h k = tt
both P Q (s ∷ ss) h k = ((h.0, k.0), both P Q ss h.1 k.1)

later_not_own : (c : BackLetter) → AllByRecursion (λ s. is_own (back_view c) s ≡ false) (later_stamps c.call)
later_not_own c =
    let whole : AllByRecursion (IsApart c.r.letters) (c.call.at.along.read.early ++ (call_now c.call ++ later_stamps c.call)) = subst (AllByRecursion (IsApart c.r.letters)) (call_root_stamps c.call) (root_apart c) in
    let rest = (all_parted (IsApart c.r.letters) c.call.at.along.read.early (call_now c.call ++ later_stamps c.call) whole).1 in
    let later = (all_parted (IsApart c.r.letters) (call_now c.call) (later_stamps c.call) rest).1 in
    all_weaker (λ s. IsApart c.r.letters s × (2 * suc (suc c.call.r.letters) ≤ s)) (λ s. is_own (back_view c) s ≡ false) (λ s h. off s h.0 h.1) (later_stamps c.call)
    (both (IsApart c.r.letters) (λ s. 2 * suc (suc c.call.r.letters) ≤ s) (later_stamps c.call) later (call_later_within c.call))
  where
    off : (s : ℕ) → IsApart c.r.letters s → 2 * suc (suc c.call.r.letters) ≤ s → is_own (back_view c) s ≡ false
    off s (inl a) l = (back_own c s).2 (omega (arith, l)) a
    off s (inr a) l = (back_own c s).3 a

callee_not_own : (c : BackLetter) (k : ℕ) → AllByRecursion (λ s. is_own (back_view c) s ≡ false) (repeated (suc (2 * suc c.call.r.letters)) k)
callee_not_own c k =
    let e = call_earlier c in
    all_repeated (λ s. is_own (back_view c) s ≡ false) (suc (2 * suc c.call.r.letters)) k ((back_own c (suc (2 * suc c.call.r.letters))).2 (omega arith) (omega (arith, e)))

back_parted : (c : BackLetter) (more : List LinearRow) (late : List ℕ) (n : ℕ) (b : Branch) (parts : List (ℕ × ℤ)) → LeafFacts (back_view c) (back_root c) more late n b parts →
    Parted (back_view c) (root_of c.call.g c.call.w) b (front_of c.call) (own_block c.call) c.call.at.along.read.early (own_now c.call) more late
back_parted c more late n b parts f =
    let l : CallLetter = c.call in
    let made : List LinearRow = entry_block l ++ (local_block l ++ old_block l) in
    let stamps : List ℕ = callee_now l (entry_block l) ++ (callee_now l (local_block l) ++ callee_now l (old_block l)) in
    let k = call_now_counted l in
    let m = call_later_counted l in
    let own = length-repeated (2 * suc l.r.letters) (length (own_block l)) in
    let a1 = length-append (own_now l) stamps in
    let a2 = length-append (own_block l) made in
    let a3 = length-append stamps (later_stamps l) in
    let a4 = length-append made (map tightened (later_rows l)) in
    record {
      rest = made ++ map tightened (later_rows l);
      after = stamps ++ later_stamps l;
      rows = call_root_rows l ∙ ap (λ (x : List LinearRow). front_of l ++ x) (append_assoc (own_block l) made (map tightened (later_rows l)));
      stamps = call_root_stamps l ∙ ap (λ (x : List ℕ). l.at.along.read.early ++ x) (append_assoc (own_now l) stamps (later_stamps l));
      early_count = call_early_front l;
      now_count = own;
      after_count = omega (arith, k, m, own, a1, a2, a3, a4);
      not_own = all_joined (λ s. is_own (back_view c) s ≡ false) stamps (later_stamps l)
          (all_joined (λ s. is_own (back_view c) s ≡ false) (callee_now l (entry_block l)) (callee_now l (local_block l) ++ callee_now l (old_block l)) (callee_not_own c (length (entry_block l)))
          (all_joined (λ s. is_own (back_view c) s ≡ false) (callee_now l (local_block l)) (callee_now l (old_block l)) (callee_not_own c (length (local_block l))) (callee_not_own c (length (old_block l)))))
          (later_not_own c);
      branch_rows = f.rows;
      branch_stamps = f.stamps;
    }

-- ---- what they add

rows_pass : (c : BackLetter) (rows : List LinearRow) → AllPairs (λ r s. is_own (back_view c) s ≡ true) rows (repeated (2 * suc c.call.r.letters) (length rows))
rows_pass c [] = tt
rows_pass c (r ∷ rows) = ((back_own c (2 * suc c.call.r.letters)).1 refl, rows_pass c rows)

own_add : (c : BackLetter) (val : Role → ℤ) (number other : LinearRow → ℤ) → BackRows c (λ r s. number r ≡ other s) →
    others val number (own_roles c) (back_own_rows c) ≡ passing (is_own (back_view c)) (λ j. val (branch_row j)) other (length (front_of c.call)) (own_block c.call) (own_now c.call)
own_add c val number other same =
    let rows : c.call.r.rows ≡ length (front_of c.call) = sym c.call.at.along.read.row_count ∙ sym (length-map c.call.at.along.read.front tightened) in
    ap (λ (n : ℕ). others val number (branch_rows n (length c.call.rows)) (back_own_rows c)) rows ∙
    ap (λ (n : ℕ). others val number (branch_rows (length (front_of c.call)) n) (back_own_rows c)) (own_counted c) ∙
    rows_add (back_view c) val number other (length (front_of c.call)) (back_own_rows c) (own_block c.call) (own_now c.call) same.own (rows_pass c (own_block c.call))

pairs_of_second : {X : Type 0} (P : ℕ → Type 0) (xs : List X) (ss : List ℕ) → length ss ≡ length xs → AllByRecursion P ss → AllPairs (λ x s. P s) xs ss
pairs_of_second P [] [] l h = tt
pairs_of_second P [] (s ∷ ss) l h = absurd (omega (arith, l))
pairs_of_second P (x ∷ xs) [] l h = absurd (omega (arith, l))
pairs_of_second P (x ∷ xs) (s ∷ ss) l h = (h.0, pairs_of_second P xs ss (omega (arith, l)) h.1)

frame_add : (c : BackLetter) (val : Role → ℤ) (number other : LinearRow → ℤ) → BackRows c (λ r s. number r ≡ other s) →
    others val number (frame_roles c) (back_frame c) ≡ passing (is_own (back_view c)) (λ j. val (branch_row j)) other 0 (front_of c.call) c.call.at.along.read.early
frame_add c val number other same = by_begun c.call.at.begun
  where
    at_first : c.call.r ≡ first_reading c.call.g → (s : ℕ) → IsEarly c.call.r.letters s → is_own (back_view c) s ≡ true
    at_first e s (two, inl q) = let z : c.call.r.letters ≡ 0 = ap (λ (x : Reading). x.letters) e in (back_own c s).1 (omega (arith, z, q))
    at_first e s (two, inr q) = let z : c.call.r.letters ≡ 0 = ap (λ (x : Reading). x.letters) e in absurd (omega (arith, z, q, two))

    at_later : 0 < c.call.r.letters → (s : ℕ) → IsEarly c.call.r.letters s → is_own (back_view c) s ≡ false
    at_later l s (two, inl q) = (back_own c s).0 (omega (arith, l, q))
    at_later l s (two, inr q) = (back_own c s).0 (omega (arith, q))

    by_begun : ((c.call.r ≡ first_reading c.call.g) × (caller_in c.call ≡ start_frame c.call.g)) ⊎ (0 < c.call.r.letters) →
        others val number (before_bounds (suc c.call.r.letters) (caller_in c.call)) (back_frame c) ≡ passing (is_own (back_view c)) (λ j. val (branch_row j)) other 0 (front_of c.call) c.call.at.along.read.early
    by_begun (inl e) =
        let letters : suc c.call.r.letters ≡ 1 = ap (λ (x : Reading). suc x.letters) e.0 in
        let here : before_bounds (suc c.call.r.letters) (caller_in c.call) ≡ branch_rows 0 (bounds_in (caller_in c.call)) =
        ap (λ (z : Bool). if z then branch_rows 0 (bounds_in (caller_in c.call)) else spares (bounds_in (caller_in c.call))) (eq-eqb (suc c.call.r.letters) 1 letters) in
        ap (λ (l : List Role). others val number l (back_frame c)) (here ∙ ap (branch_rows 0) (sym (frame_counted c))) ∙
        rows_add (back_view c) val number other 0 (back_frame c) (front_of c.call) c.call.at.along.read.early (same.frame e.0 e.1)
        (pairs_of_second (λ s. is_own (back_view c) s ≡ true) (front_of c.call) c.call.at.along.read.early (call_early_front c.call)
        (all_weaker (IsEarly c.call.r.letters) (λ s. is_own (back_view c) s ≡ true) (at_first e.0) c.call.at.along.read.early c.call.at.along.read.early_within))
    by_begun (inr l) =
        let here : before_bounds (suc c.call.r.letters) (caller_in c.call) ≡ spares (bounds_in (caller_in c.call)) =
        ap (λ (z : Bool). if z then branch_rows 0 (bounds_in (caller_in c.call)) else spares (bounds_in (caller_in c.call))) (ne_eqb (suc c.call.r.letters) 1 (λ (e : suc c.call.r.letters ≡ 1). omega (arith, l, e))) in
        ap (λ (r : List Role). others val number r (back_frame c)) here ∙ spares_add val number 0 (bounds_in (caller_in c.call)) (back_frame c) ∙
        sym (none_passes (is_own (back_view c)) (λ j. val (branch_row j)) other 0 (front_of c.call) c.call.at.along.read.early
        (all_weaker (IsEarly c.call.r.letters) (λ s. is_own (back_view c) s ≡ false) (at_later l) c.call.at.along.read.early c.call.at.along.read.early_within))

-- with the own cuts they are what the word's sum has more after the call's own rows
sums_differ : (c : BackLetter) (more : List LinearRow) (late : List ℕ) (n : ℕ) (b : Branch) (parts : List (ℕ × ℤ)) → LeafFacts (back_view c) (back_root c) more late n b parts →
    (number other : LinearRow → ℤ) → BackRows c (λ r s. number r ≡ other s) →
    own_sum (back_view c) (multiplier (back_view c) n b parts) number (length (root_of c.call.g c.call.w).rows) more late ≡
    passing (is_own (back_view c)) (λ j. coefficient j parts) other (length (root_of c.call.g c.call.w).rows) more late →
    (others (multiplier (back_view c) n b parts) number (own_roles c) (back_own_rows c) +ℤ others (multiplier (back_view c) n b parts) number (frame_roles c) (back_frame c)) +ℤ
    own_sum (back_view c) (multiplier (back_view c) n b parts) number (length (root_of c.call.g c.call.w).rows) more late ≡
    sum_upto b parts other (2 * suc c.call.r.letters) -ℤ sum_upto b parts other (suc (2 * c.call.r.letters))
sums_differ c more late n b parts f number other same cuts =
    let a = own_add c (multiplier (back_view c) n b parts) number other same in
    let h = frame_add c (multiplier (back_view c) n b parts) number other same in
    let d = own_parts (back_view c) (root_of c.call.g c.call.w) b (front_of c.call) (own_block c.call) c.call.at.along.read.early (own_now c.call) more late (back_parted c more late n b parts f) (λ j. coefficient j parts) other in
    let e = window_sum (back_view c) b parts other (suc (2 * c.call.r.letters)) (2 * suc c.call.r.letters) (omega arith) (back_leaf_counted c more late n b parts f) f.contradicts.each
    (all_weaker (IsApart c.r.letters)
    (λ s. (s < suc (suc (2 * c.call.r.letters)) → is_own (back_view c) s ≡ false) × (suc (2 * c.call.r.letters) < s → s < suc (2 * suc c.call.r.letters) → is_own (back_view c) s ≡ true) ×
    (2 * suc c.call.r.letters < s → is_own (back_view c) s ≡ false)) (λ s q. owns s q) b.stamps (branch_apart c more late n b parts f)) in
    omega (arith, ints, a, h, cuts, d, e)
  where
    owns : (s : ℕ) → IsApart c.r.letters s → (s < suc (suc (2 * c.call.r.letters)) → is_own (back_view c) s ≡ false) ×
        (suc (2 * c.call.r.letters) < s → s < suc (2 * suc c.call.r.letters) → is_own (back_view c) s ≡ true) × (2 * suc c.call.r.letters < s → is_own (back_view c) s ≡ false)
    owns s (inl q) = (λ l. (back_own c s).0 (omega (arith, l)), λ l m. (back_own c s).1 (omega (arith, l, m)), λ l. (back_own c s).2 l q)
    owns s (inr q) = (λ l. (back_own c s).0 (omega (arith, l)), λ l m. (back_own c s).1 (omega (arith, l, m)), λ l. (back_own c s).3 q)

-- at a column of the system and a version of the word that are one
pub columns_differ_by : (c : BackLetter) (more : List LinearRow) (late : List ℕ) (n : ℕ) (b : Branch) (parts : List (ℕ × ℤ)) → LeafFacts (back_view c) (back_root c) more late n b parts →
    (x y : ℕ) → BackRows c (λ r s. coefficient x r.terms ≡ coefficient y s.terms) → IsColumnOf (back_view c) x y →
    (others (multiplier (back_view c) n b parts) (λ r. coefficient x r.terms) (own_roles c) (back_own_rows c) +ℤ others (multiplier (back_view c) n b parts) (λ r. coefficient x r.terms) (frame_roles c) (back_frame c)) +ℤ
    own_sum (back_view c) (multiplier (back_view c) n b parts) (λ r. coefficient x r.terms) (length (root_of c.call.g c.call.w).rows) more late ≡
    column_upto b parts (2 * suc c.call.r.letters) y -ℤ column_upto b parts (suc (2 * c.call.r.letters)) y
columns_differ_by c more late n b parts f x y same of =
    sums_differ c more late n b parts f (λ r. coefficient x r.terms) (λ r. coefficient y r.terms) same
    (cuts_same (back_view c) (multiplier (back_view c) n b parts) x y of (length (root_of c.call.g c.call.w).rows) more late f.cuts)

pub bounds_differ_by : (c : BackLetter) (more : List LinearRow) (late : List ℕ) (n : ℕ) (b : Branch) (parts : List (ℕ × ℤ)) → LeafFacts (back_view c) (back_root c) more late n b parts →
    BackRows c (λ r s. r.bound ≡ s.bound) →
    (others (multiplier (back_view c) n b parts) (λ r. r.bound) (own_roles c) (back_own_rows c) +ℤ others (multiplier (back_view c) n b parts) (λ r. r.bound) (frame_roles c) (back_frame c)) +ℤ
    own_sum (back_view c) (multiplier (back_view c) n b parts) (λ r. r.bound) (length (root_of c.call.g c.call.w).rows) more late ≡
    bound_upto b parts (2 * suc c.call.r.letters) -ℤ bound_upto b parts (suc (2 * c.call.r.letters))
bounds_differ_by c more late n b parts f same =
    sums_differ c more late n b parts f (λ r. r.bound) (λ r. r.bound) same (cut_bounds (back_view c) (multiplier (back_view c) n b parts) (length (root_of c.call.g c.call.w).rows) more late)

-- where none of these rows names the column and no own cut is at it
pub nothing_added : (c : BackLetter) (more : List LinearRow) (late : List ℕ) (n : ℕ) (b : Branch) (parts : List (ℕ × ℤ)) → LeafFacts (back_view c) (back_root c) more late n b parts → (x : ℕ) →
    AllByRecursion (λ r. coefficient x r.terms ≡ pos 0) (back_own_rows c) →
    (x < m_of c) ⊎ ((m_of c + n_of c ≤ x) × ((x < m_of c + n_of c + w_of c) ⊎ (m_of c + n_of c + w_of c + c.call.helpers ≤ x))) →
    (others (multiplier (back_view c) n b parts) (λ r. coefficient x r.terms) (own_roles c) (back_own_rows c) +ℤ others (multiplier (back_view c) n b parts) (λ r. coefficient x r.terms) (frame_roles c) (back_frame c)) +ℤ
    own_sum (back_view c) (multiplier (back_view c) n b parts) (λ r. coefficient x r.terms) (length (root_of c.call.g c.call.w).rows) more late ≡ pos 0
nothing_added c more late n b parts f x off h =
    let a = others_zero (multiplier (back_view c) n b parts) (λ r. coefficient x r.terms) (own_roles c) (back_own_rows c) off in
    let d = others_zero (multiplier (back_view c) n b parts) (λ r. coefficient x r.terms) (frame_roles c) (back_frame c) (tight_off x (bounds (m_of c) (types_of (caller_in c.call))) (frame_off h)) in
    let e = no_cuts (back_view c) (multiplier (back_view c) n b parts) x (no_column c x h) (length (root_of c.call.g c.call.w).rows) more late f.cuts in
    omega (arith, ints, a, d, e)
  where
    frame_off : (x < m_of c) ⊎ ((m_of c + n_of c ≤ x) × ((x < m_of c + n_of c + w_of c) ⊎ (m_of c + n_of c + w_of c + c.call.helpers ≤ x))) →
        AllByRecursion (λ r. coefficient x r.terms ≡ pos 0) (bounds (m_of c) (types_of (caller_in c.call)))
    frame_off (inl l) = bounds_above (m_of c) x (types_of (caller_in c.call)) l
    frame_off (inr k) =
        let t = length_types (caller_in c.call) in
        let l = k.0 in
        all_weaker (λ r. IsBelow (m_of c + n_of c) r.terms) (λ r. coefficient x r.terms ≡ pos 0) (λ r q. coefficient_above (m_of c + n_of c) x r.terms q l) (bounds (m_of c) (types_of (caller_in c.call)))
        (bounds_below (m_of c + n_of c) (m_of c) (types_of (caller_in c.call)) (omega (arith, t)))
