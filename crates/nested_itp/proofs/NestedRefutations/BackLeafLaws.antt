-- At a leaf of a return's triple: which versions have no sum, and which sums stay the same.
use Rattle.std.proofs.Common.{◌≡◌, ◌∙◌, ◌⊎◌, inl, inr, ℕ, zero, suc, ◌+◌, ◌*◌, ◌<◌, ◌≤◌, ℤ, pos, Bool, true, false, List, [], ◌∷◌, ◌++◌, length, map, take, drop, refl, sym, ap, subst, arith, length-append}
use Rattle.std.specs.Prelude.{not, ◌&&◌, slice_index}
use Rattle.std.specs.List.{AllByRecursion}
use Rattle.std.proofs.lemmas.List.{length-map}
use Rattle.math_facts.specs.Terms.{coefficient}
use Rattle.nwa_base.specs.Members.{Member}
use Rattle.lin_rows.specs.Rows.{LinearRow}
use Rattle.lin_rows.specs.Tightening.{tightened}
use Rattle.lin_rows.specs.Combinations.{combined}
use Rattle.letter_acts.specs.Frames.{is_old_column, is_result, is_local, places, globals_of, result_columns, olds_of}
use Rattle.letter_acts.specs.Acts.{act_of}
use Rattle.letter_acts.specs.Reading.{taken}
use Rattle.letter_acts.specs.Invariant.{alphabet_of, MayTarget}
use Rattle.letter_acts.proofs.ListLemmas.{member_or_not, some_within}
use Rattle.letter_acts.specs.FrameRows.Rows.{bounds, types_of}
use Rattle.path_rows.specs.Versions.{PathStage, Part, part_rows, local_columns, old_part, part_of}
use Rattle.path_rows.specs.Paths.{path_along, path_of}
use Rattle.path_rows.proofs.DifferLemmas.{place_of, length_written}
use Rattle.path_rows.proofs.OpenLemmas.{at_place}
use Rattle.nested_itp.specs.NestedPredicates.Stamps.{row_stamps, column_stamp, stamps_along, stamps_of}
use Rattle.nested_itp.specs.NestedPredicates.Sums.{Branch, root_of, sum_upto, column_upto}
use Rattle.nested_itp.specs.NestedPredicates.Walking.{unmatched}
use Rattle.nested_itp.proofs.NestedPredicates.StampLaws.{IsWithin, columns_of_word_within, root_stamped}
use Rattle.nested_itp.proofs.NestedRefutations.RowsLaws.{AllPairs, pairs_joined}
use Rattle.nested_itp.proofs.NestedRefutations.OwnLaws.{sum_stays}
use Rattle.nested_itp.proofs.NestedRefutations.ContentLaws.{tightened_off}
use Rattle.nested_itp.proofs.NestedRefutations.NamesLaws.{NamesOnly, index_member, bounds_named, columns_bounds, member_dropped}
use Rattle.nested_itp.proofs.NestedRefutations.LiveLaws.{InSaved, Live, names_live}
use Rattle.nested_itp.proofs.NestedRefutations.ReadLaws.{IsEarly, rows_counted}
use Rattle.nested_itp.proofs.NestedRefutations.VersionLaws.{columns_count, places_differ, split_at}
use Rattle.nested_itp.proofs.NestedRefutations.GoneLaws.{member_below, below_at, saved_below, saved_apart}
use Rattle.nested_itp.proofs.NestedRefutations.LayoutLaws.{layout_of}
use Rattle.nested_itp.proofs.NestedRefutations.LeavesLaws.{LeafFacts}
use Rattle.nested_itp.proofs.NestedRefutations.InsideColumnLaws.{stamp_left, all_repeated, length-repeated}
use Rattle.nested_itp.proofs.NestedRefutations.InsideLeafLaws.{NotNamed, no_stamp, no_name, no_cut, all_counted, all_joined, cut_stamps, all_weaker}
use Rattle.nested_itp.proofs.NestedRefutations.CallAtLaws.{entry_of, call_part_is}
use Rattle.nested_itp.proofs.NestedRefutations.CallColumnLaws.{caller_in, callee_in, width, heads, olds, locals, made, made_count, call_names, call_view, lay, caller_long, callee_long, name_caller, name_old, take_short, heads_within}
use Rattle.nested_itp.proofs.NestedRefutations.CallCutLaws.{MadeAt, before_it, as_local, as_helper, as_old, behind_it, made_at}
use Rattle.nested_itp.proofs.NestedRefutations.CallRowLaws.{IsOldAt, olds_at, old_bounds_are, local_bounds_are, length_types}
use Rattle.nested_itp.proofs.NestedRefutations.CallSumLaws.{own_block, entry_block, local_block, old_block, callee_now, own_now, front_of, later_rows, later_stamps, call_root_counted, call_early_front, call_later_counted}
use Rattle.nested_itp.proofs.NestedRefutations.CallLeafLaws.{call_not_named, entry_members}
use Rattle.nested_itp.proofs.NestedRefutations.ReturningLaws.{named_off, tight_off}
use Rattle.nested_itp.proofs.NestedRefutations.QuietLaws.{IsBetween, stamps_weaker, never_named}
use Rattle.nested_itp.proofs.NestedRefutations.BackColumnLaws.{BackLetter, returned_global, returned_behind, returned_target, m_of, n_of, after_position, back_view, back_root, call_earlier, exit_long}
use Rattle.nested_itp.proofs.NestedRefutations.BackCutLaws.{IsApart, early_apart}
use Rattle.nested_itp.proofs.NestedRefutations.BackAddLaws.{as_call, back_leaf_counted, branch_apart}
use Rattle.nested_itp.proofs.NestedRefutations.WrittenLaws.{place_in, taken_of, taken_parts}

-- ---- sums of the branch

-- where no row from one stamp on names it, it has no sum there, since all rows have none
sum_gone : (c : BackLetter) (more : List LinearRow) (late : List ℕ) (n : ℕ) (b : Branch) (parts : List (ℕ × ℤ)) → LeafFacts (back_view c) (back_root c) more late n b parts →
    (low y : ℕ) → NotNamed (λ s. low < s) y b.rows b.stamps → column_upto b parts low y ≡ pos 0
sum_gone c more late n b parts f low y none =
    let limit : ℕ = 2 * (2 + length c.call.w) in
    let high : ℕ = limit + low in
    let counted = back_leaf_counted c more late n b parts f in
    let number : LinearRow → ℤ = λ r. coefficient y r.terms in
    let stays : sum_upto b parts number high ≡ sum_upto b parts number low = sum_stays b parts number low high (omega arith) counted f.contradicts.each (curried b.rows b.stamps high none) in
    let within : AllByRecursion (λ x. x < suc high) b.stamps = subst (AllByRecursion (λ x. x < suc high)) (sym f.stamps)
    (all_joined (λ x. x < suc high) (root_of c.call.g c.call.w).stamps late
    (all_weaker (IsWithin limit) (λ x. x < suc high) (λ x h. (let a = h.1 in omega (arith, a))) (root_of c.call.g c.call.w).stamps (root_stamped limit c.call.g c.call.w (omega arith) (omega arith)).within)
    (all_weaker (λ x. x < suc limit) (λ x. x < suc high) (λ x h. omega (arith, h)) late
    (cut_stamps (back_view c).columns limit (omega arith) (columns_of_word_within limit c.call.g c.call.w (omega arith) (omega arith)) more late f.cuts))) in
    sym stays ∙ ap (combined number b.rows) (all_counted high b parts counted within f.contradicts.each) ∙ f.contradicts.columns_vanish y
  where
    curried : (rows : List LinearRow) (ss : List ℕ) (high : ℕ) → NotNamed (λ s. low < s) y rows ss → AllPairs (λ r s. low < s → s < suc high → coefficient y r.terms ≡ pos 0) rows ss
    curried [] [] high h = tt
    curried [] (s ∷ ss) high h = absurd h
    curried (r ∷ rows) [] high h = absurd h
    curried (r ∷ rows) (s ∷ ss) high h = ((λ a k. h.0 a), curried rows ss high h.1)

-- where no row between two stamps names it, its sum stays
sum_same : (c : BackLetter) (more : List LinearRow) (late : List ℕ) (n : ℕ) (b : Branch) (parts : List (ℕ × ℤ)) → LeafFacts (back_view c) (back_root c) more late n b parts →
    (low high y : ℕ) → low ≤ high → NotNamed (λ s. (low < s) × (s < suc high)) y b.rows b.stamps → column_upto b parts high y ≡ column_upto b parts low y
sum_same c more late n b parts f low high y l none =
    sum_stays b parts (λ r. coefficient y r.terms) low high l (back_leaf_counted c more late n b parts f) f.contradicts.each (curried b.rows b.stamps none)
  where
    curried : (rows : List LinearRow) (ss : List ℕ) → NotNamed (λ s. (low < s) × (s < suc high)) y rows ss → AllPairs (λ r s. low < s → s < suc high → coefficient y r.terms ≡ pos 0) rows ss
    curried [] [] h = tt
    curried [] (s ∷ ss) h = absurd h
    curried (r ∷ rows) [] h = absurd h
    curried (r ∷ rows) (s ∷ ss) h = ((λ a k. h.0 (a, k)), curried rows ss h.1)

-- the return makes nothing, so that all sums stay over it
pub over_return : (c : BackLetter) (more : List LinearRow) (late : List ℕ) (n : ℕ) (b : Branch) (parts : List (ℕ × ℤ)) → LeafFacts (back_view c) (back_root c) more late n b parts → (number : LinearRow → ℤ) →
    sum_upto b parts number (suc (2 * suc c.r.letters)) ≡ sum_upto b parts number (suc (2 * c.r.letters))
over_return c more late n b parts f number =
    let counted = back_leaf_counted c more late n b parts f in
    sum_stays b parts number (suc (2 * c.r.letters)) (suc (2 * suc c.r.letters)) (omega arith) counted f.contradicts.each (none b.rows b.stamps counted (branch_apart c more late n b parts f))
  where
    clash : (s : ℕ) → IsApart c.r.letters s → suc (2 * c.r.letters) < s → s < suc (suc (2 * suc c.r.letters)) → ⊥
    clash s (inl a) l m = omega (arith, a, l)
    clash s (inr a) l m = omega (arith, a, m)

    none : (rows : List LinearRow) (ss : List ℕ) → length ss ≡ length rows → AllByRecursion (IsApart c.r.letters) ss →
        AllPairs (λ r s. suc (2 * c.r.letters) < s → s < suc (suc (2 * suc c.r.letters)) → number r ≡ pos 0) rows ss
    none [] [] l h = tt
    none [] (s ∷ ss) l h = absurd (omega (arith, l))
    none (r ∷ rows) [] l h = absurd (omega (arith, l))
    none (r ∷ rows) (s ∷ ss) l h = ((λ a k. absurd (clash s h.0 a k)), none rows ss (omega (arith, l)) h.1)

-- rows of the word, tightened, and of cuts
tight_pairs : (P : ℕ → Type 0) (y : ℕ) (rows : List LinearRow) (ss : List ℕ) → NotNamed P y rows ss → NotNamed P y (map tightened rows) ss
tight_pairs P y [] [] h = tt
tight_pairs P y [] (s ∷ ss) h = absurd h
tight_pairs P y (r ∷ rows) [] h = absurd h
tight_pairs P y (r ∷ rows) (s ∷ ss) h = ((λ p. tightened_off y r (h.0 p)), tight_pairs P y rows ss h.1)

branch_not_named : (c : BackLetter) (more : List LinearRow) (late : List ℕ) (n : ℕ) (b : Branch) (parts : List (ℕ × ℤ)) → LeafFacts (back_view c) (back_root c) more late n b parts →
    (P : ℕ → Type 0) (y : ℕ) → NotNamed P y (path_of c.call.g c.call.w).rows (stamps_of c.call.g c.call.w).rows →
    ((col : ℕ) → col < length (back_view c).columns → P (column_stamp (back_view c).columns col) → col ≡ y → ⊥) → NotNamed P y b.rows b.stamps
branch_not_named c more late n b parts f P y root cuts =
    let Q : LinearRow → ℕ → Type 0 = λ r s. P s → coefficient y r.terms ≡ pos 0 in
    let all = pairs_joined Q (root_of c.call.g c.call.w).rows (root_of c.call.g c.call.w).stamps more late
    (tight_pairs P y (path_of c.call.g c.call.w).rows (stamps_of c.call.g c.call.w).rows root) (no_cut (back_view c).columns P y cuts more late f.cuts) in
    subst (λ (rs : List LinearRow). NotNamed P y rs b.stamps) (sym f.rows) (subst (NotNamed P y ((root_of c.call.g c.call.w).rows ++ more)) (sym f.stamps) all)

-- ---- versions that the rest of the word does not name

-- what the return leaves
back_after : (c : BackLetter) → (part_of (alphabet_of c.call.g) c.a c.r.stage).after ≡
    record { made = c.r.stage.made; here = (after_position c).here; saved = c.call.r.stage.saved }
back_after c = ap (λ (x : Part). x.after) c.part_is

-- no rows of the rest name it
rest_unnamed : (c : BackLetter) (y : ℕ) → y < c.r.stage.made → (Member (after_position c).here y → ⊥) → ((k : ℕ) → InSaved c.call.globals k c.call.r.stage.saved y → ⊥) →
    AllByRecursion (λ r. coefficient y r.terms ≡ pos 0) (path_along (alphabet_of c.call.g) (suc (suc c.r.letters)) (part_of (alphabet_of c.call.g) c.a c.r.stage).after c.rest).rows
rest_unnamed c y below off saved =
    let al = alphabet_of c.call.g in
    let part : Part = part_of al c.a c.r.stage in
    all_weaker (NamesOnly (Live c.call.globals part.after c.rest)) (λ r. coefficient y r.terms ≡ pos 0)
    (λ r h. h y (λ live. dead (subst (λ (z : PathStage). Live c.call.globals z c.rest y) (back_after c) live)))
    (path_along al (suc (suc c.r.letters)) part.after c.rest).rows (names_live al c.call.globals (suc (suc c.r.letters)) part.after c.rest c.along.names.1)
  where
    dead : (c.r.stage.made ≤ y) ⊎ (Member (after_position c).here y ⊎ InSaved c.call.globals (unmatched c.rest) c.call.r.stage.saved y) → ⊥
    dead (inl k) = omega (arith, k, below)
    dead (inr (inl m)) = off m
    dead (inr (inr i)) = saved (unmatched c.rest) i

-- the columns of the word before the return have earlier stamps
column_early : (c : BackLetter) (col : ℕ) → col < c.r.stage.made → column_stamp (back_view c).columns col < 2 * suc c.r.letters
column_early c col l =
    let later : List ℕ = (stamps_along (alphabet_of c.call.g) (suc c.r.letters) c.r.stage (c.a ∷ c.rest)).columns in
    let m = c.along.read.made in
    subst (λ (cs : List ℕ). column_stamp cs col < 2 * suc c.r.letters) (sym c.along.read.column_stamps)
    (stamp_left (λ s. s < 2 * suc c.r.letters) c.along.read.columns later col (omega (arith, l, m))
    (all_weaker (IsEarly c.r.letters) (λ s. s < 2 * suc c.r.letters) (λ s h. early_apart c s h) c.along.read.columns c.along.read.columns_within))

-- it has no sum at the exit
gone_at_return : (c : BackLetter) (more : List LinearRow) (late : List ℕ) (n : ℕ) (b : Branch) (parts : List (ℕ × ℤ)) → LeafFacts (back_view c) (back_root c) more late n b parts →
    (y : ℕ) → y < c.r.stage.made → (Member (after_position c).here y → ⊥) → ((k : ℕ) → InSaved c.call.globals k c.call.r.stage.saved y → ⊥) → column_upto b parts (suc (2 * c.r.letters)) y ≡ pos 0
gone_at_return c more late n b parts f y below off saved =
    let al = alphabet_of c.call.g in
    let k : ℕ = suc c.r.letters in
    let part : Part = part_of al c.a c.r.stage in
    let now : List ℕ = row_stamps k (act_of al c.a) part in
    let rows : List LinearRow = (path_along al (suc k) part.after c.rest).rows in
    let stamps : List ℕ = (stamps_along al (suc k) part.after c.rest).rows in
    let P : ℕ → Type 0 = λ s. suc (2 * c.r.letters) < s in
    let Q : LinearRow → ℕ → Type 0 = λ r s. P s → coefficient y r.terms ≡ pos 0 in
    let nothing : part_rows part ≡ [] = ap part_rows c.part_is in
    let counted : length now ≡ length (part_rows part) = rows_counted k (act_of al c.a) part in
    let all = ap (λ (l : List ℕ). length l) c.along.read.stamps in
    let all_rows = ap (λ (l : List LinearRow). length l) c.along.read.rows in
    let root = call_root_counted c.call in
    let tight = length-map (path_of c.call.g c.call.w).rows tightened in
    let e1 = length-append c.along.read.early (now ++ stamps) in
    let e2 = length-append now stamps in
    let e3 = length-append c.along.read.front (part_rows part ++ rows) in
    let e4 = length-append (part_rows part) rows in
    let e5 = c.along.read.early_count in
    let later_counted : length stamps ≡ length rows = omega (arith, counted, all, all_rows, root, tight, e1, e2, e3, e4, e5) in
    let front = no_stamp P y c.along.read.front c.along.read.early e5 (all_weaker (IsEarly c.r.letters) (λ s. P s → ⊥) (λ s h p. (let q = early_apart c s h in omega (arith, q, p))) c.along.read.early c.along.read.early_within) in
    let block = never_named P y (part_rows part) now counted (subst (AllByRecursion (λ r. coefficient y r.terms ≡ pos 0)) (sym nothing) tt) in
    let later = never_named P y rows stamps later_counted (rest_unnamed c y below off saved) in
    let joined = pairs_joined Q c.along.read.front c.along.read.early (part_rows part ++ rows) (now ++ stamps) front (pairs_joined Q (part_rows part) now rows stamps block later) in
    let whole : NotNamed P y (path_of c.call.g c.call.w).rows (stamps_of c.call.g c.call.w).rows =
    subst (λ (l : List LinearRow). AllPairs Q l (stamps_of c.call.g c.call.w).rows) (sym c.along.read.rows) (subst (AllPairs Q (c.along.read.front ++ (part_rows part ++ rows))) (sym c.along.read.stamps) joined) in
    sum_gone c more late n b parts f (suc (2 * c.r.letters)) y
    (branch_not_named c more late n b parts f P y whole (λ col l p e. (let q = column_early c col (omega (arith, e, below)) in omega (arith, p, q))))

-- ---- versions of the callee at the exit

in_dropped : (n : ℕ) (xs : List ℕ) (j : ℕ) → n ≤ j → j < length xs → Member (drop n xs) (slice_index xs j)
in_dropped zero xs j l m = index_member xs j m
in_dropped (suc n) [] j l m = absurd (omega (arith, m))
in_dropped (suc n) (x ∷ xs) zero l m = absurd (omega (arith, l))
in_dropped (suc n) (x ∷ xs) (suc j) l m = in_dropped n xs j (omega (arith, l)) (omega (arith, m))

-- the caller begins with so many constants and globals
globals_count : (c : BackLetter) → (length (globals_of (caller_in c.call)) ≡ heads c.call) × (c.call.globals ≡ heads c.call)
globals_count c =
    let e : length (globals_of (caller_in c.call)) ≡ heads c.call =
    ap (λ (l : List ℕ). length l) (layout_of c.call.at.infos (caller_in c.call) c.call.at.from_frame).globals ∙ columns_count 0 (heads c.call) in
    (e, sym (c.have c.call.caller c.call.at.acted.caller_exists) ∙ e)

-- no version at the exit is one of what the caller has behind its globals, nor further out
exit_apart : (c : BackLetter) (k j : ℕ) → j < m_of c → InSaved c.call.globals k (c.call.r.stage.here ∷ c.call.r.stage.saved) (slice_index c.r.stage.here j) → ⊥
exit_apart c k j l i =
    let long = exit_long c in
    saved_apart c.call.g c.call.globals c.have c.r.stage.made c.along.goes.places c.r.stage.saved c.r.stage.here c.along.goes.comes.saved k j (omega (arith, l, long))
    (subst (λ (s : List (List ℕ)). InSaved c.call.globals k s (slice_index c.r.stage.here j)) (sym c.saved_is) i)

exit_saved : (c : BackLetter) (j : ℕ) → j < m_of c → (k : ℕ) → InSaved c.call.globals k c.call.r.stage.saved (slice_index c.r.stage.here j) → ⊥
exit_saved c j l k i = exit_apart c (suc k) j l (inr i)

exit_not_before : (c : BackLetter) (j p : ℕ) → j < m_of c → heads c.call ≤ p → p < width c.call → slice_index c.r.stage.here j ≡ slice_index c.call.r.stage.here p → ⊥
exit_not_before c j p l low within e =
    let g = (globals_count c).1 in
    exit_apart c 1 j l (inl (subst (Member (drop c.call.globals c.call.r.stage.here)) (sym e) (in_dropped c.call.globals c.call.r.stage.here p (omega (arith, g, low)) within)))

pub after_long : (c : BackLetter) → length (after_position c).here ≡ n_of c
after_long c =
    let count : ℕ = length (globals_of (caller_in c.call)) in
    let g = (globals_count c).0 in
    let a = length_written (take count c.r.stage.here ++ drop count c.call.r.stage.here) c.targets (map (slice_index c.r.stage.here) (result_columns (callee_in c.call))) in
    let b = length-append (take count c.r.stage.here) (drop count c.call.r.stage.here) in
    let long = exit_long c in
    let k = callee_long c.call in
    let w = heads_within c.call in
    let t = take_short count c.r.stage.here (omega (arith, g, long, k)) in
    let d = drop_count count c.call.r.stage.here (omega (arith, g, w)) in
    let n = caller_long c.call in
    omega (arith, a, b, t, d, n)
  where
    drop_count : (n : ℕ) (xs : List ℕ) → n ≤ length xs → n + length (drop n xs) ≡ length xs
    drop_count zero xs l = omega arith
    drop_count (suc n) [] l = absurd (omega (arith, l))
    drop_count (suc n) (x ∷ xs) l = let h = drop_count n xs (omega (arith, l)) in omega (arith, h)

-- the results stand among the locals
pub result_behind : (c : BackLetter) (q : ℕ) → Member (result_columns (callee_in c.call)) q → (heads c.call + olds c.call ≤ q) × (q < m_of c)
result_behind c q m =
    let p = at_place is_result 0 (callee_in c.call) q m in
    let e : q ≡ p.0 = (let k = p.2 in omega (arith, k)) in
    let is : is_local p.1 ≡ true = first_true (is_local p.1) (not p.1.1.constant) p.4 in
    let there : Member (places is_local 0 (callee_in c.call)) q = subst (Member (places is_local 0 (callee_in c.call))) (let k : 0 + p.0 ≡ q = omega (arith, e) in k) (place_in is_local 0 (callee_in c.call) p.0 p.1 p.3 is) in
    let b = columns_bounds (heads c.call + olds c.call) (locals c.call) q (subst (λ (l : List ℕ). Member l q) (lay c.call).local_places there) in
    let low = b.0 in
    let high = b.1 in
    let k = callee_long c.call in
    (low, omega (arith, high, k))
  where
    first_true : (a b : Bool) → (a && b) ≡ true → a ≡ true
    first_true true b e = refl
    first_true false b e = e

-- ---- where the versions after the return come from

-- of a column at the exit: it is a result that is taken, or a constant or global that is no target
pub data ComesFrom (c : BackLetter) (j : ℕ) : Type 0 where
  as_result : (t : ℕ) → Member (taken c.targets (result_columns (callee_in c.call))) (t, j) → ComesFrom c j
  as_global : j < heads c.call → (Member c.targets j → ⊥) → ComesFrom c j

-- a column of the frame after it has the version of a taken result, of a global at the exit, or of before
pub data AfterFrom (c : BackLetter) (p : ℕ) : Type 0 where
  from_result : (r : ℕ) → Member (taken c.targets (result_columns (callee_in c.call))) (p, r) → slice_index (after_position c).here p ≡ slice_index c.r.stage.here r → AfterFrom c p
  from_exit : p < heads c.call → (Member c.targets p → ⊥) → slice_index (after_position c).here p ≡ slice_index c.r.stage.here p → AfterFrom c p
  from_before : heads c.call ≤ p → (Member c.targets p → ⊥) → slice_index (after_position c).here p ≡ slice_index c.call.r.stage.here p → AfterFrom c p

targets_below : (c : BackLetter) → AllByRecursion (λ t. t < n_of c) c.targets
targets_below c = all_weaker (MayTarget (caller_in c.call)) (λ t. t < n_of c) (λ t h. some_within (λ v. (v.1.constant ≡ false) × (is_old_column v.0 ≡ false)) (caller_in c.call) t h) c.targets c.acted.may_target

pub after_from : (c : BackLetter) (p : ℕ) → p < n_of c → AfterFrom c p
after_from c p l = by_target (member_or_not c.targets p)
  where
    fits : length (globals_of (caller_in c.call)) ≤ length c.r.stage.here
    fits =
        let g = (globals_count c).0 in
        let long = exit_long c in
        let k = callee_long c.call in
        omega (arith, g, long, k)

    wide : (c : BackLetter) → length (take (length (globals_of (caller_in c.call))) c.r.stage.here ++ drop (length (globals_of (caller_in c.call))) c.call.r.stage.here) ≡ n_of c
    wide c =
        sym (length_written (take (length (globals_of (caller_in c.call))) c.r.stage.here ++ drop (length (globals_of (caller_in c.call))) c.call.r.stage.here) c.targets (map (slice_index c.r.stage.here) (result_columns (callee_in c.call)))) ∙ after_long c

    by_target : Member c.targets p ⊎ (Member c.targets p → ⊥) → AfterFrom c p
    by_target (inl m) =
        let r = taken_of (caller_in c.call) (callee_in c.call) c.targets (result_columns (callee_in c.call)) c.acted.take p m in
        let e = wide c in
        from_result r.0 r.1 (returned_target (caller_in c.call) (callee_in c.call) c.targets c.r.stage.here c.call.r.stage.here c.acted.distinct
        (all_weaker (λ t. t < n_of c) (λ t. t < length (take (length (globals_of (caller_in c.call))) c.r.stage.here ++ drop (length (globals_of (caller_in c.call))) c.call.r.stage.here)) (λ t h. omega (arith, h, e)) c.targets (targets_below c))
        p r.0 r.1)
    by_target (inr n) = by_head (split_at (heads c.call) p)
      where
        by_head : (p < heads c.call) ⊎ ((i : ℕ) × (p ≡ heads c.call + i)) → AfterFrom c p
        by_head (inl b) =
            let g = (globals_count c).0 in
            from_exit b n (returned_global (caller_in c.call) (callee_in c.call) c.targets c.r.stage.here c.call.r.stage.here fits p n (omega (arith, b, g)))
        by_head (inr h) =
            let g = (globals_count c).0 in
            let e = h.1 in
            let q : p ≡ length (globals_of (caller_in c.call)) + h.0 = omega (arith, e, g) in
            from_before (omega (arith, e)) n
            (subst (λ (x : ℕ). slice_index (after_position c).here x ≡ slice_index c.call.r.stage.here x) (sym q)
            (returned_behind (caller_in c.call) (callee_in c.call) c.targets c.r.stage.here c.call.r.stage.here fits h.0 (λ m. n (subst (Member c.targets) (sym q) m))))

comes_from : (c : BackLetter) (j : ℕ) → j < m_of c → Member (after_position c).here (slice_index c.r.stage.here j) → ComesFrom c j
comes_from c j l m =
    let s = place_of (after_position c).here (slice_index c.r.stage.here j) m in
    let long = after_long c in
    let w = s.within in
    by_case s.at (omega (arith, w, long)) s.there (after_from c s.at (omega (arith, w, long)))
  where
    same : (q : ℕ) → q < m_of c → slice_index c.r.stage.here q ≡ slice_index c.r.stage.here j → q ≡ j
    same q k e = let long = exit_long c in places_differ c.r.stage.here c.versions.differ q j (omega (arith, k, long)) (omega (arith, l, long)) e

    by_case : (p : ℕ) → p < n_of c → slice_index (after_position c).here p ≡ slice_index c.r.stage.here j → AfterFrom c p → ComesFrom c j
    by_case p b e (from_result r t q) =
        let k = (result_behind c r (taken_parts c.targets (result_columns (callee_in c.call)) (p, r) t).1).1 in
        as_result p (subst (λ (x : ℕ). Member (taken c.targets (result_columns (callee_in c.call))) (p, x)) (same r k (sym q ∙ e)) t)
    by_case p b e (from_exit h n q) =
        let k = callee_long c.call in
        let i : p ≡ j = same p (omega (arith, h, k)) (sym q ∙ e) in
        as_global (omega (arith, h, i)) (subst (λ (x : ℕ). Member c.targets x → ⊥) i n)
    by_case p b e (from_before h n q) = let a = caller_long c.call in absurd (exit_not_before c j p l h (omega (arith, b, a)) (sym e ∙ q))

-- a version at the exit that does not come through is gone
pub exit_gone : (c : BackLetter) (more : List LinearRow) (late : List ℕ) (n : ℕ) (b : Branch) (parts : List (ℕ × ℤ)) → LeafFacts (back_view c) (back_root c) more late n b parts →
    (j : ℕ) → j < m_of c → (ComesFrom c j → ⊥) → column_upto b parts (suc (2 * c.r.letters)) (slice_index c.r.stage.here j) ≡ pos 0
exit_gone c more late n b parts f j l off =
    let long = exit_long c in
    gone_at_return c more late n b parts f (slice_index c.r.stage.here j) (below_at c.r.stage.made c.r.stage.here j c.versions.below (omega (arith, l, long))) (λ m. off (comes_from c j l m)) (exit_saved c j l)

-- ---- versions of the caller

-- what it has behind its globals no row names between the call and the return
pub caller_quiet : (c : BackLetter) (more : List LinearRow) (late : List ℕ) (n : ℕ) (b : Branch) (parts : List (ℕ × ℤ)) → LeafFacts (back_view c) (back_root c) more late n b parts →
    (p : ℕ) → heads c.call ≤ p → p < width c.call →
    column_upto b parts (suc (2 * c.r.letters)) (slice_index c.call.r.stage.here p) ≡ column_upto b parts (2 * suc c.call.r.letters) (slice_index c.call.r.stage.here p)
caller_quiet c more late n b parts f p low within =
    let y : ℕ = slice_index c.call.r.stage.here p in
    let g = (globals_count c).1 in
    let e = call_earlier c in
    let P : ℕ → Type 0 = λ s. (2 * suc c.call.r.letters < s) × (s < suc (suc (2 * c.r.letters))) in
    let quiet = c.quiet y (in_dropped c.call.globals c.call.r.stage.here p (omega (arith, g, low)) within) in
    let below : y < made c.call = below_at (made c.call) c.call.r.stage.here p c.call.at.versions.below within in
    sum_same c more late n b parts f (2 * suc c.call.r.letters) (suc (2 * c.r.letters)) y (omega (arith, e))
    (branch_not_named c more late n b parts f P y
    (stamps_weaker (IsBetween (suc c.call.r.letters) c.r.letters) P y (path_of c.call.g c.call.w).rows (stamps_of c.call.g c.call.w).rows quiet (every (stamps_of c.call.g c.call.w).rows))
    (λ col l q h. early col (omega (arith, h, below)) q.0 (made_at c.call col l)))
  where
    every : (ss : List ℕ) → AllByRecursion (λ s. (2 * suc c.call.r.letters < s) × (s < suc (suc (2 * c.r.letters))) → IsBetween (suc c.call.r.letters) c.r.letters s) ss
    every [] = tt
    every (s ∷ ss) = ((λ q. (let a = q.0 in let b = q.1 in (a, omega (arith, a), omega (arith, b)))), every ss)

    early : (col : ℕ) → col < made c.call → 2 * suc c.call.r.letters < column_stamp (back_view c).columns col → MadeAt c.call col (column_stamp (back_view c).columns col) → ⊥
    early col b l (before_it h (two, inl k)) = omega (arith, l, k)
    early col b l (before_it h (two, inr k)) = omega (arith, l, k)
    early col b l (as_local i h k q) = omega (arith, b, k)
    early col b l (as_helper i h k q) = omega (arith, b, k)
    early col b l (as_old i h k q) = omega (arith, b, k)
    early col b l (behind_it h q) = omega (arith, b, h)

-- and of those a target's is gone
pub target_gone : (c : BackLetter) (more : List LinearRow) (late : List ℕ) (n : ℕ) (b : Branch) (parts : List (ℕ × ℤ)) → LeafFacts (back_view c) (back_root c) more late n b parts →
    (p : ℕ) → heads c.call ≤ p → p < width c.call → Member c.targets p → column_upto b parts (suc (2 * c.r.letters)) (slice_index c.call.r.stage.here p) ≡ pos 0
target_gone c more late n b parts f p low within target =
    let y : ℕ = slice_index c.call.r.stage.here p in
    let g = (globals_count c).1 in
    let dropped = in_dropped c.call.globals c.call.r.stage.here p (omega (arith, g, low)) within in
    gone_at_return c more late n b parts f y
    (saved_below c.call.g c.call.globals c.r.stage.made c.along.goes.places c.r.stage.saved c.r.stage.here c.along.goes.comes.saved 1 y
    (subst (λ (s : List (List ℕ)). InSaved c.call.globals 1 s y) (sym c.saved_is) (inl dropped)))
    (λ m. (let s = place_of (after_position c).here y m in let long = after_long c in let w = s.within in by_case s.at (omega (arith, w, long)) s.there (after_from c s.at (omega (arith, w, long)))))
    (λ k i. saved_apart c.call.g c.call.globals c.have c.call.r.stage.made c.call.at.along.goes.places c.call.r.stage.saved c.call.r.stage.here c.call.at.along.goes.comes.saved k p within i)
  where
    by_case : (q : ℕ) → q < n_of c → slice_index (after_position c).here q ≡ slice_index c.call.r.stage.here p → AfterFrom c q → ⊥
    by_case q b e (from_result r t h) = exit_not_before c r p (result_behind c r (taken_parts c.targets (result_columns (callee_in c.call)) (q, r) t).1).1 low within (sym h ∙ e)
    by_case q b e (from_exit l n h) = let k = callee_long c.call in exit_not_before c q p (omega (arith, l, k)) low within (sym h ∙ e)
    by_case q b e (from_before l n h) =
        let a = caller_long c.call in
        n (subst (Member c.targets) (sym (places_differ c.call.r.stage.here c.call.at.versions.differ q p (omega (arith, b, a)) within (sym h ∙ e))) target)

-- ---- helpers

-- the rest of the word behind the call names no version that the call makes but those of the entry
new_unnamed : (c : BackLetter) (y : ℕ) → y < made c.call + made_count c.call → made c.call ≤ y → (Member (entry_of c.call.g c.call.r c.call.callee c.call.helpers) y → ⊥) →
    AllByRecursion (λ r. coefficient y r.terms ≡ pos 0) (later_rows c.call)
unfolding later_rows
new_unnamed c y l low off =
    let al = alphabet_of c.call.g in
    let part : Part = part_of al c.call.a c.call.r.stage in
    all_weaker (NamesOnly (Live c.call.globals part.after c.call.rest)) (λ r. coefficient y r.terms ≡ pos 0)
    (λ r h. h y
    (λ live. dead (subst (λ (z : Part). Live c.call.globals z.after c.call.rest y) (call_part_is c.call.g c.call.globals c.call.w c.call.r c.call.a c.call.rest c.call.caller c.call.callee c.call.helpers c.call.rows c.call.at) live)))
    (later_rows c.call) (names_live al c.call.globals (suc (suc c.call.r.letters)) part.after c.call.rest c.call.at.along.names.1)
  where
    further : (k : ℕ) → InSaved c.call.globals k (c.call.r.stage.here ∷ c.call.r.stage.saved) y → ⊥
    further zero i = i
    further (suc k) (inl m) = let b = member_below (made c.call) c.call.r.stage.here y c.call.at.versions.below (member_dropped c.call.globals c.call.r.stage.here y m) in omega (arith, b, low)
    further (suc k) (inr i) =
        let b = saved_below c.call.g c.call.globals c.call.r.stage.made c.call.at.along.goes.places c.call.r.stage.saved c.call.r.stage.here c.call.at.along.goes.comes.saved k y i in
        omega (arith, b, low)

    dead : (made c.call + made_count c.call ≤ y) ⊎ (Member (entry_of c.call.g c.call.r c.call.callee c.call.helpers) y ⊎ InSaved c.call.globals (unmatched c.call.rest) (c.call.r.stage.here ∷ c.call.r.stage.saved) y) → ⊥
    dead (inl k) = omega (arith, k, l)
    dead (inr (inl m)) = off m
    dead (inr (inr i)) = further (unmatched c.call.rest) i

-- up to what the call makes in its caller a helper has no sum: no later row names it
pub helper_gone : (c : BackLetter) (more : List LinearRow) (late : List ℕ) (n : ℕ) (b : Branch) (parts : List (ℕ × ℤ)) → LeafFacts (back_view c) (back_root c) more late n b parts →
    (i : ℕ) → i < c.call.helpers → column_upto b parts (2 * suc c.call.r.letters) (made c.call + locals c.call + i) ≡ pos 0
helper_gone c more late n b parts f i l =
    let y : ℕ = made c.call + locals c.call + i in
    let k : ℕ = suc c.call.r.letters in
    let P : ℕ → Type 0 = λ s. 2 * k < s in
    let Q : LinearRow → ℕ → Type 0 = λ r s. P s → coefficient y r.terms ≡ pos 0 in
    let made_rows : List LinearRow = entry_block c.call ++ (local_block c.call ++ old_block c.call) in
    let stamps : List ℕ = callee_now c.call (entry_block c.call) ++ (callee_now c.call (local_block c.call) ++ callee_now c.call (old_block c.call)) in
    let own = no_stamp P y (own_block c.call) (own_now c.call) (length-repeated (2 * k) (length (own_block c.call))) (all_repeated (λ s. P s → ⊥) (2 * k) (length (own_block c.call)) (λ p. omega (arith, p))) in
    let entries = never_named P y (entry_block c.call) (callee_now c.call (entry_block c.call)) (length-repeated (suc (2 * k)) (length (entry_block c.call))) (entries_off c i l) in
    let locals_off = never_named P y (local_block c.call) (callee_now c.call (local_block c.call)) (length-repeated (suc (2 * k)) (length (local_block c.call))) (local_off c i l) in
    let olds_off = never_named P y (old_block c.call) (callee_now c.call (old_block c.call)) (length-repeated (suc (2 * k)) (length (old_block c.call))) (old_off c i l) in
    let rest = pairs_joined Q (local_block c.call) (callee_now c.call (local_block c.call)) (old_block c.call) (callee_now c.call (old_block c.call)) locals_off olds_off in
    let all = pairs_joined Q (own_block c.call) (own_now c.call) made_rows stamps own
    (pairs_joined Q (entry_block c.call) (callee_now c.call (entry_block c.call)) (local_block c.call ++ old_block c.call) (callee_now c.call (local_block c.call) ++ callee_now c.call (old_block c.call)) entries rest) in
    sum_gone c more late n b parts f (2 * k) y
    (call_not_named c.call more late n b parts (as_call c more late n b parts f) P y
    (no_stamp P y (front_of c.call) c.call.at.along.read.early (call_early_front c.call) (all_weaker (IsEarly c.call.r.letters) (λ s. P s → ⊥) (λ s e p. early s e p) c.call.at.along.read.early c.call.at.along.read.early_within))
    all (no_name P y (later_rows c.call) (later_stamps c.call) (call_later_counted c.call) (new_unnamed c y (omega (arith, l)) (omega arith) (λ m. off_entry m)))
    (no_cut (call_view c.call).columns P y (λ col b p e. late_one col p e (made_at c.call col b)) more late f.cuts))
  where
    early : (s : ℕ) → IsEarly c.call.r.letters s → 2 * suc c.call.r.letters < s → ⊥
    early s (two, inl e) p = omega (arith, e, p)
    early s (two, inr e) p = omega (arith, e, p)

    late_one : (col : ℕ) → 2 * suc c.call.r.letters < column_stamp (call_view c.call).columns col → col ≡ made c.call + locals c.call + i → MadeAt c.call col (column_stamp (call_view c.call).columns col) → ⊥
    late_one col s e (before_it h k) = omega (arith, h, e)
    late_one col s e (as_local j h k q) = omega (arith, h, k, e)
    late_one col s e (as_helper j h k q) = omega (arith, s, q)
    late_one col s e (as_old j h k q) = omega (arith, k, e, l)
    late_one col s e (behind_it h q) = omega (arith, h, e, l)

    off_entry : Member (entry_of c.call.g c.call.r c.call.callee c.call.helpers) (made c.call + locals c.call + i) → ⊥
    off_entry m = by_case (entry_members c.call (made c.call + locals c.call + i) m)
      where
        by_case : ((j : ℕ) × (j < heads c.call) × (slice_index c.call.r.stage.here j ≡ made c.call + locals c.call + i)) ⊎
            ((made c.call ≤ made c.call + locals c.call + i) × ((made c.call + locals c.call + i < made c.call + locals c.call) ⊎ (made c.call + locals c.call + c.call.helpers ≤ made c.call + locals c.call + i))) → ⊥
        by_case (inl h) =
            let e = h.2 in
            let b = h.1 in
            let w = heads_within c.call in
            let k = below_at (made c.call) c.call.r.stage.here h.0 c.call.at.versions.below (omega (arith, b, w)) in
            omega (arith, e, k)
        by_case (inr (a, inl h)) = omega (arith, h)
        by_case (inr (a, inr h)) = omega (arith, h, l)

    local_off : (c : BackLetter) (i : ℕ) → i < c.call.helpers → AllByRecursion (λ r. coefficient (made c.call + locals c.call + i) r.terms ≡ pos 0) (local_block c.call)
    local_off c i l =
        let y : ℕ = made c.call + locals c.call + i in
        let t = length_types (local_columns (callee_in c.call)) in
        subst (λ (rs : List LinearRow). AllByRecursion (λ r. coefficient y r.terms ≡ pos 0) (map tightened rs)) (sym (local_bounds_are c.call))
        (tight_off y (bounds (made c.call) (types_of (local_columns (callee_in c.call))))
        (all_weaker (NamesOnly (λ x. (made c.call ≤ x) × (x < made c.call + length (types_of (local_columns (callee_in c.call)))))) (λ r. coefficient y r.terms ≡ pos 0)
        (λ r h. h y (λ q. (let u = q.1 in omega (arith, u, t)))) (bounds (made c.call) (types_of (local_columns (callee_in c.call)))) (bounds_named (made c.call) (types_of (local_columns (callee_in c.call))))))

    old_off : (c : BackLetter) (i : ℕ) → i < c.call.helpers → AllByRecursion (λ r. coefficient (made c.call + locals c.call + i) r.terms ≡ pos 0) (old_block c.call)
    old_off c i l =
        let y : ℕ = made c.call + locals c.call + i in
        let first : ℕ = made c.call + locals c.call + c.call.helpers in
        subst (λ (rs : List LinearRow). AllByRecursion (λ r. coefficient y r.terms ≡ pos 0) (map tightened rs)) (sym (old_bounds_are c.call))
        (tight_off y (bounds first (types_of (old_part (callee_in c.call))))
        (all_weaker (NamesOnly (λ x. (first ≤ x) × (x < first + length (types_of (old_part (callee_in c.call)))))) (λ r. coefficient y r.terms ≡ pos 0)
        (λ r h. h y (λ q. (let u = q.0 in omega (arith, u, l)))) (bounds first (types_of (old_part (callee_in c.call)))) (bounds_named first (types_of (old_part (callee_in c.call))))))

    entries_off : (c : BackLetter) (i : ℕ) → i < c.call.helpers → AllByRecursion (λ r. coefficient (made c.call + locals c.call + i) r.terms ≡ pos 0) (entry_block c.call)
    entries_off c i l =
        named_off c.call (made c.call + locals c.call + i) (olds_of (callee_in c.call)) (olds_at c.call) (λ o q m. ((λ r. old_name o q r), (λ r. global_name o q r)))
      where
        old_name : (o : ℕ × ℕ) → IsOldAt c.call o → slice_index (call_names c.call) (width c.call + o.0) ≡ made c.call + locals c.call + i → ⊥
        old_name o q r =
            let e = q.column in
            let v = name_old c.call (width c.call + o.0) q.place (omega (arith, e)) q.within in
            omega (arith, r, v, l)

        global_name : (o : ℕ × ℕ) → IsOldAt c.call o → slice_index (call_names c.call) o.1 ≡ made c.call + locals c.call + i → ⊥
        global_name o q r =
            let g = q.global in
            let w = heads_within c.call in
            let v = name_caller c.call o.1 (omega (arith, g, w)) in
            let k = below_at (made c.call) c.call.r.stage.here o.1 c.call.at.versions.below (omega (arith, g, w)) in
            omega (arith, r, v, k)
