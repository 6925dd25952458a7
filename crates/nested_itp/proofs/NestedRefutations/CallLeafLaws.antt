-- At a leaf of a call's triple: the sums of its claims, what its ties add, and which versions have no sum.
use Rattle.std.proofs.Common.{◌≡◌, ◌∙◌, ◌⊎◌, inl, inr, ℕ, zero, suc, ◌+◌, ◌*◌, ◌<◌, ◌≤◌, ℤ, pos, neg_ℤ, true, false, List, [], ◌∷◌, ◌++◌, length, map, take, refl, sym, ap, subst, arith}
use Rattle.std.specs.Prelude.{slice_index, slice_get, unwrap_or, ◌-ℤ◌}
use Rattle.std.specs.List.{AllByRecursion}
use Rattle.std.proofs.lemmas.Bool.{le-ltb, ltb-true}
use Rattle.math_facts.specs.Terms.{coefficient}
use Rattle.nwa_base.specs.declared.letters.Kind.{Kind}
use Rattle.nwa_base.specs.declared.letters.Kind.TheVariants as kinds
use Rattle.nwa_base.specs.declared.letters.Letter.{Letter}
use Rattle.nwa_base.specs.Members.{Member}
use Rattle.lin_rows.specs.Rows.{LinearRow}
use Rattle.lin_rows.specs.Tightening.{tightened}
use Rattle.lin_rows.specs.Combinations.{combined}
use Rattle.letter_acts.specs.Frames.{globals_of}
use Rattle.letter_acts.specs.Invariant.{alphabet_of, AreDistinct}
use Rattle.letter_acts.proofs.ListLemmas.{counted_up_member}
use Rattle.path_rows.specs.Versions.{Part, part_of}
use Rattle.letter_acts.specs.FrameRows.Rows.{columns_from, renamed}
use Rattle.path_rows.specs.Paths.{repeated}
use Rattle.path_rows.proofs.DifferLemmas.{taken_at, columns_distinct}
use Rattle.nested_itp.specs.NestedPredicates.Stamps.{column_stamp}
use Rattle.nested_itp.specs.NestedPredicates.Positions.{returned_by, has_return, Position}
use Rattle.nested_itp.specs.NestedPredicates.Sums.{Branch, root_of, sum_upto, column_upto, known_sum, coefficients_at}
use Rattle.nested_itp.specs.NestedPredicates.Walking.{unmatched_before, unmatched}
use Rattle.nested_itp.proofs.NestedPredicates.StampLaws.{IsWithin, stamp_within, columns_of_word_within, root_stamped}
use Rattle.nested_itp.specs.NestedRefutations.Refutations.{Claim, Role, target_tie, multiplier}
use Rattle.nested_itp.proofs.NestedRefutations.RowsLaws.{AllPairs, pairs_joined}
use Rattle.nested_itp.proofs.NestedRefutations.WayLaws.{others}
use Rattle.nested_itp.proofs.NestedRefutations.WindowLaws.{none_passes, none_counts, is_upto, sum_passes}
use Rattle.nested_itp.proofs.NestedRefutations.OwnLaws.{IsCutAt, sum_stays}
use Rattle.nested_itp.proofs.NestedRefutations.ClaimLaws.{IsTold, sum_row}
use Rattle.nested_itp.proofs.NestedRefutations.ColumnLaws.{number_in, known_in, number_at, claim_at, claim_off}
use Rattle.nested_itp.proofs.NestedRefutations.ReadLaws.{IsEarly}
use Rattle.nested_itp.proofs.NestedRefutations.NamesLaws.{NamesOnly, member_joined, columns_bounds}
use Rattle.nested_itp.proofs.NestedRefutations.LiveLaws.{InSaved, Live, names_live}
use Rattle.nested_itp.proofs.NestedRefutations.LayoutLaws.{up_from}
use Rattle.nested_itp.proofs.NestedRefutations.LeavesLaws.{LeafFacts}
use Rattle.nested_itp.proofs.NestedRefutations.TieLaws.{AreTies, ties_off, ties_first, ties_second}
use Rattle.nested_itp.proofs.NestedRefutations.InsideLeafLaws.{NotNamed, no_stamp, no_name, no_cut, all_counted, cut_stamps, all_weaker, all_joined}
use Rattle.nested_itp.proofs.NestedRefutations.CallAtLaws.{entry_of, call_part_is}
use Rattle.nested_itp.proofs.NestedRefutations.CallColumnLaws.{CallLetter, caller_in, callee_in, width, heads, olds, locals, made, made_count, new_in_callee, call_view, call_root, lay, caller_long, heads_within, heads_are, entry_long}
use Rattle.nested_itp.proofs.NestedRefutations.CallCutLaws.{MadeAt, before_it, as_local, as_helper, as_old, behind_it, made_at, map_columns}
use Rattle.nested_itp.proofs.NestedRefutations.CallSumLaws.{own_block, entry_block, local_block, old_block, callee_now, own_now, call_block, call_now, front_of, later_rows, later_stamps, call_root_rows, call_root_stamps, call_later_within, call_early_front, call_now_counted, call_later_counted, call_leaf_counted, target_claim, global_ties}

-- ---- rows that do not name a version

pub call_not_named : (c : CallLetter) (more : List LinearRow) (late : List ℕ) (n : ℕ) (b : Branch) (parts : List (ℕ × ℤ)) → LeafFacts (call_view c) (call_root c) more late n b parts →
    (P : ℕ → Type 0) (y : ℕ) → NotNamed P y (front_of c) c.at.along.read.early → NotNamed P y (call_block c) (call_now c) → NotNamed P y (map tightened (later_rows c)) (later_stamps c) →
    NotNamed P y more late → NotNamed P y b.rows b.stamps
call_not_named c more late n b parts f P y front now later cuts =
    let Q : LinearRow → ℕ → Type 0 = λ r s. P s → coefficient y r.terms ≡ pos 0 in
    let rest = pairs_joined Q (call_block c) (call_now c) (map tightened (later_rows c)) (later_stamps c) now later in
    let root = pairs_joined Q (front_of c) c.at.along.read.early (call_block c ++ map tightened (later_rows c)) (call_now c ++ later_stamps c) front rest in
    let all = pairs_joined Q (front_of c ++ (call_block c ++ map tightened (later_rows c))) (c.at.along.read.early ++ (call_now c ++ later_stamps c)) more late root cuts in
    subst (λ (rs : List LinearRow). NotNamed P y rs b.stamps) (sym (f.rows ∙ ap (λ (l : List LinearRow). l ++ more) (call_root_rows c)))
    (subst (NotNamed P y ((front_of c ++ (call_block c ++ map tightened (later_rows c))) ++ more)) (sym (f.stamps ∙ ap (λ (l : List ℕ). l ++ late) (call_root_stamps c))) all)

-- no row of the front names a version that was made later
pub front_unnamed : (c : CallLetter) (P : ℕ → Type 0) (y : ℕ) → made c ≤ y → NotNamed P y (front_of c) c.at.along.read.early
front_unnamed c P y l =
    no_name P y c.at.along.read.front c.at.along.read.early (call_early_front c)
    (all_weaker (NamesOnly (λ x. x < made c)) (λ r. coefficient y r.terms ≡ pos 0) (λ r h. h y (λ m. omega (arith, l, m))) c.at.along.read.front c.at.along.read.named)

-- where none that is counted names it there is no sum
pub no_sum : (c : CallLetter) (more : List LinearRow) (late : List ℕ) (n : ℕ) (b : Branch) (parts : List (ℕ × ℤ)) → LeafFacts (call_view c) (call_root c) more late n b parts →
    (s y : ℕ) → NotNamed (λ x. is_upto s x ≡ true) y b.rows b.stamps → column_upto b parts s y ≡ pos 0
no_sum c more late n b parts f s y h =
    sum_passes b parts (λ r. coefficient y r.terms) s (call_leaf_counted c more late n b parts f) f.contradicts.each ∙
    none_counts (is_upto s) (λ k. coefficient k parts) (λ r. coefficient y r.terms) 0 b.rows b.stamps h

pub upto_below : (s x : ℕ) → is_upto s x ≡ true → x < suc s
upto_below s x e = ltb-true x (suc s) e

pub now_all : (c : CallLetter) (P : ℕ → Type 0) → P (2 * suc c.r.letters) → P (suc (2 * suc c.r.letters)) → AllByRecursion P (call_now c)
now_all c P h k =
    let rest : List ℕ = callee_now c (local_block c) ++ callee_now c (old_block c) in
    all_joined P (own_now c) (callee_now c (entry_block c) ++ rest) (repeats (2 * suc c.r.letters) h (length (own_block c)))
    (all_joined P (callee_now c (entry_block c)) rest (repeats (suc (2 * suc c.r.letters)) k (length (entry_block c)))
    (all_joined P (callee_now c (local_block c)) (callee_now c (old_block c)) (repeats (suc (2 * suc c.r.letters)) k (length (local_block c))) (repeats (suc (2 * suc c.r.letters)) k (length (old_block c)))))
  where
    repeats : (x : ℕ) → P x → (n : ℕ) → AllByRecursion P (repeated x n)
    repeats x p zero = tt
    repeats x p (suc n) = (p, repeats x p n)

-- each stamp is 2 or more, so that up to 0 there is no sum
pub zero_sum : (c : CallLetter) (more : List LinearRow) (late : List ℕ) (n : ℕ) (b : Branch) (parts : List (ℕ × ℤ)) → LeafFacts (call_view c) (call_root c) more late n b parts →
    (number : LinearRow → ℤ) → sum_upto b parts number 0 ≡ pos 0
zero_sum c more late n b parts f number =
    let limit : ℕ = 2 * (2 + length c.w) in
    sum_passes b parts number 0 (call_leaf_counted c more late n b parts f) f.contradicts.each ∙
    none_passes (is_upto 0) (λ k. coefficient k parts) number 0 b.rows b.stamps
    (subst (AllByRecursion (λ s. is_upto 0 s ≡ false)) (sym f.stamps)
    (all_joined (λ s. is_upto 0 s ≡ false) (root_of c.g c.w).stamps late
    (all_weaker (IsWithin limit) (λ s. is_upto 0 s ≡ false) (λ s h. (let a = h.0 in le-ltb s 1 (omega (arith, a)))) (root_of c.g c.w).stamps (root_stamped limit c.g c.w (omega arith) (omega arith)).within)
    (late_two (call_view c).columns limit (omega arith) (columns_of_word_within limit c.g c.w (omega arith) (omega arith)) more late f.cuts)))
  where
    late_two : (columns : List ℕ) (limit : ℕ) → 2 < limit → AllByRecursion (IsWithin limit) columns → (rows : List LinearRow) (ss : List ℕ) → AllPairs (IsCutAt columns) rows ss → AllByRecursion (λ s. is_upto 0 s ≡ false) ss
    late_two columns limit two h [] [] k = tt
    late_two columns limit two h [] (s ∷ ss) k = absurd k
    late_two columns limit two h (r ∷ rows) [] k = absurd k
    late_two columns limit two h (r ∷ rows) (s ∷ ss) k =
        let w : IsWithin limit (column_stamp columns k.0.column) = stamp_within limit k.0.column columns two h in
        let a = w.0 in
        let e = k.0.stamp_is in
        (le-ltb s 1 (omega (arith, a, e)), late_two columns limit two h rows ss k.1)

-- before the call
pub new_before : (c : CallLetter) (more : List LinearRow) (late : List ℕ) (n : ℕ) (b : Branch) (parts : List (ℕ × ℤ)) → LeafFacts (call_view c) (call_root c) more late n b parts →
    (y : ℕ) → made c ≤ y → column_upto b parts (suc (2 * c.r.letters)) y ≡ pos 0
new_before c more late n b parts f y l =
    let P : ℕ → Type 0 = λ s. is_upto (suc (2 * c.r.letters)) s ≡ true in
    no_sum c more late n b parts f (suc (2 * c.r.letters)) y
    (call_not_named c more late n b parts f P y (front_unnamed c P y l)
    (no_stamp P y (call_block c) (call_now c) (call_now_counted c) (now_all c (λ s. P s → ⊥) (λ p. after_upto (2 * suc c.r.letters) p (omega arith)) (λ p. after_upto (suc (2 * suc c.r.letters)) p (omega arith))))
    (no_stamp P y (map tightened (later_rows c)) (later_stamps c) (call_later_counted c)
    (all_weaker (λ s. 2 * suc (suc c.r.letters) ≤ s) (λ s. P s → ⊥) (λ s m p. after_upto s p (omega (arith, m))) (later_stamps c) (call_later_within c)))
    (no_cut (call_view c).columns P y (λ col k p e. early col (upto_below (suc (2 * c.r.letters)) (column_stamp (call_view c).columns col) p) e (made_at c col k)) more late f.cuts))
  where
    after_upto : (s : ℕ) → is_upto (suc (2 * c.r.letters)) s ≡ true → suc (2 * c.r.letters) < s → ⊥
    after_upto s p m = let k = upto_below (suc (2 * c.r.letters)) s p in omega (arith, k, m)

    early : (col : ℕ) → column_stamp (call_view c).columns col < suc (suc (2 * c.r.letters)) → col ≡ y → MadeAt c col (column_stamp (call_view c).columns col) → ⊥
    early col s e (before_it h k) = omega (arith, h, e, l)
    early col s e (as_local i h k q) = omega (arith, s, q)
    early col s e (as_helper i h k q) = omega (arith, s, q)
    early col s e (as_old i h k q) = omega (arith, s, q)
    early col s e (behind_it h q) = omega (arith, s, q)

-- after the call, if the rest of the word does not name it
pub gone_after : (c : CallLetter) (more : List LinearRow) (late : List ℕ) (n : ℕ) (b : Branch) (parts : List (ℕ × ℤ)) → LeafFacts (call_view c) (call_root c) more late n b parts →
    (y : ℕ) → y < made c + made_count c → AllByRecursion (λ r. coefficient y r.terms ≡ pos 0) (later_rows c) → column_upto b parts (suc (2 * suc c.r.letters)) y ≡ pos 0
gone_after c more late n b parts f y l named =
    let low : ℕ = suc (2 * suc c.r.letters) in
    let limit : ℕ = 2 * (2 + length c.w) in
    let high : ℕ = limit + low in
    let P : ℕ → Type 0 = λ s. low < s × (s < suc high) in
    let counted = call_leaf_counted c more late n b parts f in
    let number : LinearRow → ℤ = λ r. coefficient y r.terms in
    let pairs = call_not_named c more late n b parts f P y
    (no_stamp P y (front_of c) c.at.along.read.early (call_early_front c) (all_weaker (IsEarly c.r.letters) (λ s. P s → ⊥) (λ s e p. early_low s e p.0) c.at.along.read.early c.at.along.read.early_within))
    (no_stamp P y (call_block c) (call_now c) (call_now_counted c) (now_all c (λ s. P s → ⊥) (λ p. (let a = p.0 in omega (arith, a))) (λ p. (let a = p.0 in omega (arith, a)))))
    (no_name P y (later_rows c) (later_stamps c) (call_later_counted c) named)
    (no_cut (call_view c).columns P y (λ col k p e. late_one col p.0 e (made_at c col k)) more late f.cuts) in
    let stays : sum_upto b parts number high ≡ sum_upto b parts number low = sum_stays b parts number low high (omega arith) counted f.contradicts.each
    (curried b.rows b.stamps low high pairs) in
    let within : AllByRecursion (λ x. x < suc high) b.stamps = subst (AllByRecursion (λ x. x < suc high)) (sym f.stamps)
    (all_joined (λ x. x < suc high) (root_of c.g c.w).stamps late
    (all_weaker (IsWithin limit) (λ x. x < suc high) (λ x h. (let a = h.1 in omega (arith, a))) (root_of c.g c.w).stamps (root_stamped limit c.g c.w (omega arith) (omega arith)).within)
    (all_weaker (λ x. x < suc limit) (λ x. x < suc high) (λ x h. omega (arith, h)) late
    (cut_stamps (call_view c).columns limit (omega arith) (columns_of_word_within limit c.g c.w (omega arith) (omega arith)) more late f.cuts))) in
    sym stays ∙ ap (combined number b.rows) (all_counted high b parts counted within f.contradicts.each) ∙ f.contradicts.columns_vanish y
  where
    early_low : (s : ℕ) → IsEarly c.r.letters s → suc (2 * suc c.r.letters) < s → ⊥
    early_low s (two, inl e) p = omega (arith, e, p)
    early_low s (two, inr e) p = omega (arith, e, p)

    late_one : (col : ℕ) → suc (2 * suc c.r.letters) < column_stamp (call_view c).columns col → col ≡ y → MadeAt c col (column_stamp (call_view c).columns col) → ⊥
    late_one col s e (before_it h k) = early_low (column_stamp (call_view c).columns col) k s
    late_one col s e (as_local i h k q) = omega (arith, s, q)
    late_one col s e (as_helper i h k q) = omega (arith, s, q)
    late_one col s e (as_old i h k q) = omega (arith, s, q)
    late_one col s e (behind_it h q) = omega (arith, h, e, l)

    curried : (rows : List LinearRow) (ss : List ℕ) (low high : ℕ) → NotNamed (λ s. low < s × (s < suc high)) y rows ss → AllPairs (λ r s. low < s → s < suc high → coefficient y r.terms ≡ pos 0) rows ss
    curried [] [] low high h = tt
    curried [] (s ∷ ss) low high h = absurd h
    curried (r ∷ rows) [] low high h = absurd h
    curried (r ∷ rows) (s ∷ ss) low high h = ((λ a k. h.0 (a, k)), curried rows ss low high h.1)

-- ---- which versions the rest of a word may name behind a call that does not return

no_unmatched : (w : List Letter) (k : ℕ) → has_return k w ≡ false → unmatched w ≤ k
no_unmatched [] k e = omega arith
no_unmatched (a ∷ w) k e = by_kind a.kind k e (no_unmatched w)
  where
    by_kind : (kind : Kind) (k : ℕ) → returned_by kind k (λ n. has_return n w) ≡ false → ((n : ℕ) → has_return n w ≡ false → unmatched w ≤ n) → unmatched_before kind (unmatched w) ≤ k
    by_kind kinds.Inside k e f = f k e
    by_kind kinds.Call k e f = let l = f (suc k) e in omega (arith, l)
    by_kind kinds.Back zero e f = absurd (cc)
    by_kind kinds.Back (suc k) e f = let l = f k e in omega (arith, l)

in_none : (globals k : ℕ) (saved : List (List ℕ)) (y : ℕ) → k ≤ 0 → InSaved globals k saved y → ⊥
in_none globals zero saved y l i = i
in_none globals (suc k) saved y l i = omega (arith, l)

pub pending_unnamed : (c : CallLetter) → has_return 0 c.rest ≡ false → (y : ℕ) → y < made c + made_count c → (Member (entry_of c.g c.r c.callee c.helpers) y → ⊥) →
    AllByRecursion (λ r. coefficient y r.terms ≡ pos 0) (later_rows c)
unfolding later_rows
pending_unnamed c pending y l off =
    let al = alphabet_of c.g in
    let part : Part = part_of al c.a c.r.stage in
    all_weaker (NamesOnly (Live c.globals part.after c.rest)) (λ r. coefficient y r.terms ≡ pos 0)
    (λ r h. h y (λ live. dead (subst (λ (z : Part). Live c.globals z.after c.rest y) (call_part_is c.g c.globals c.w c.r c.a c.rest c.caller c.callee c.helpers c.rows c.at) live)))
    (later_rows c) (names_live al c.globals (suc (suc c.r.letters)) part.after c.rest c.at.along.names.1)
  where
    dead : (made c + made_count c ≤ y) ⊎ (Member (entry_of c.g c.r c.callee c.helpers) y ⊎ InSaved c.globals (unmatched c.rest) (c.r.stage.here ∷ c.r.stage.saved) y) → ⊥
    dead (inl k) = omega (arith, k, l)
    dead (inr (inl m)) = off m
    dead (inr (inr i)) = in_none c.globals (unmatched c.rest) (c.r.stage.here ∷ c.r.stage.saved) y (no_unmatched c.rest 0 pending) i

-- the versions at the entry: those of the caller's globals, and new ones
pub entry_members : (c : CallLetter) (y : ℕ) → Member (entry_of c.g c.r c.callee c.helpers) y →
    ((j : ℕ) × (j < heads c) × (slice_index c.r.stage.here j ≡ y)) ⊎ ((made c ≤ y) × ((y < made c + locals c) ⊎ (made c + locals c + c.helpers ≤ y)))
entry_members c y m = by_part (member_joined (take (length (globals_of (callee_in c))) c.r.stage.here) (new_in_callee c) y m)
  where
    by_new : Member (columns_from (made c + locals c + c.helpers) (olds c)) y ⊎ Member (columns_from (made c) (locals c)) y → (made c ≤ y) × ((y < made c + locals c) ⊎ (made c + locals c + c.helpers ≤ y))
    by_new (inl k) = let h = (columns_bounds (made c + locals c + c.helpers) (olds c) y k).0 in (omega (arith, h), inr h)
    by_new (inr k) = let h = columns_bounds (made c) (locals c) y k in (h.0, inl h.1)

    by_part : Member (take (length (globals_of (callee_in c))) c.r.stage.here) y ⊎ Member (new_in_callee c) y →
        ((j : ℕ) × (j < heads c) × (slice_index c.r.stage.here j ≡ y)) ⊎ ((made c ≤ y) × ((y < made c + locals c) ⊎ (made c + locals c + c.helpers ≤ y)))
    by_part (inl k) = let h = taken_at (length (globals_of (callee_in c))) c.r.stage.here y k in let a = h.1 in let e = heads_are c in inl (h.0, omega (arith, a, e), h.3)
    by_part (inr k) = inr (by_new (member_joined (columns_from (made c + locals c + c.helpers) (olds c)) (columns_from (made c) (locals c)) y k))

-- ---- the sums of its claims

pub target_told : (c : CallLetter) → IsTold (target_claim c)
target_told c i j l m e = omega (arith, e)

abbrev pub claim_sum : Claim → Branch → List (ℕ × ℤ) → ℕ → ℤ
claim_sum d b parts x = coefficient x (renamed d.column (sum_row d b parts)).terms

-- the target's sum at a column of the callee
abbrev pub target_sum : CallLetter → Branch → List (ℕ × ℤ) → ℕ → ℤ
target_sum c b parts j =
    column_upto b parts (suc (2 * suc c.r.letters)) (slice_index (entry_of c.g c.r c.callee c.helpers) j) -ℤ
    known_sum b parts (target_claim c).position.scope.own (known_in (target_claim c).position.scope.known j)

pub target_at : (c : CallLetter) (b : Branch) (parts : List (ℕ × ℤ)) (x j : ℕ) → x ≡ width c + j → j < length (callee_in c) → claim_sum (target_claim c) b parts x ≡ target_sum c b parts j
target_at c b parts x j e l =
    let a = caller_long c in
    let m = entry_long c in
    ap (claim_sum (target_claim c) b parts) (let q : x ≡ length (caller_in c) + j = omega (arith, e, a) in q) ∙ claim_at (target_claim c) b parts (target_told c) j (omega (arith, l, m))

pub target_off : (c : CallLetter) (b : Branch) (parts : List (ℕ × ℤ)) (x : ℕ) → (x < width c) ⊎ (width c + length (callee_in c) ≤ x) → claim_sum (target_claim c) b parts x ≡ pos 0
target_off c b parts x h = claim_off (target_claim c) b parts x (λ j k e. off j k e h)
  where
    off : (j : ℕ) → j < length (entry_of c.g c.r c.callee c.helpers) → length (caller_in c) + j ≡ x → (x < width c) ⊎ (width c + length (callee_in c) ≤ x) → ⊥
    off j k e (inl l) = let a = caller_long c in omega (arith, e, l, a)
    off j k e (inr l) = let a = caller_long c in let m = entry_long c in omega (arith, e, l, a, k, m)

-- it is the multiplier of the tie of that column
pub number_got : (l : List ℤ) (j : ℕ) → unwrap_or (slice_get l j) (pos 0) ≡ number_in l j
number_got [] j = refl
number_got (a ∷ l) zero = refl
number_got (a ∷ l) (suc j) = number_got l j

pub tie_times : (c : CallLetter) (n : ℕ) (b : Branch) (parts : List (ℕ × ℤ)) (j : ℕ) → j < length (callee_in c) → multiplier (call_view c) n b parts (target_tie j) ≡ target_sum c b parts j
tie_times c n b parts j l =
    let m = entry_long c in
    let q : Position = (target_claim c).position in
    number_got (coefficients_at b parts q) j ∙ number_at b parts q.scope.own q.upto q.here q.scope.known j (omega (arith, l, m))

-- ---- its ties of globals

pub record GlobalsOf (c : CallLetter) : Type 0 where
  pub within : AllByRecursion (λ x. x < heads c) (globals_of (callee_in c))
  pub firsts : AreDistinct (map (λ x. length (caller_in c) + x) (globals_of (callee_in c)))
  pub seconds : AreDistinct (map (λ x. x) (globals_of (callee_in c)))
  pub member : (x : ℕ) → x < heads c → Member (globals_of (callee_in c)) x

columns_within : (a k m : ℕ) → a + k ≤ m → AllByRecursion (λ x. x < m) (columns_from a k)
columns_within a zero m l = tt
columns_within a (suc k) m l = (omega (arith, l), columns_within (suc a) k m (omega (arith, l)))

map_same : (xs : List ℕ) → map (λ x. x) xs ≡ xs
map_same [] = refl
map_same (x ∷ xs) = ap (λ (l : List ℕ). x ∷ l) (map_same xs)

pub from_member : (a k x : ℕ) → a ≤ x → x < a + k → Member (columns_from a k) x
from_member a k x l m = subst (λ (xs : List ℕ). Member xs x) (up_from a k) (counted_up_member a k x l m)

pub globals_in : (c : CallLetter) → GlobalsOf c
globals_in c =
    let n : ℕ = length (caller_in c) in
    let e : columns_from 0 (heads c) ≡ globals_of (callee_in c) = sym (lay c).globals in
    record {
      within = subst (AllByRecursion (λ x. x < heads c)) e (columns_within 0 (heads c) (heads c) (omega arith));
      firsts = subst (λ (l : List ℕ). AreDistinct (map (λ x. n + x) l)) e (subst AreDistinct (sym (map_columns n 0 (heads c))) (columns_distinct (n + 0) (heads c)));
      seconds = subst (λ (l : List ℕ). AreDistinct (map (λ x. x) l)) e (subst AreDistinct (sym (map_same (columns_from 0 (heads c)))) (columns_distinct 0 (heads c)));
      member = λ x l. subst (λ (l : List ℕ). Member l x) e (from_member 0 (heads c) x (omega arith) (omega (arith, l)));
    }

pub globals_tie : (c : CallLetter) → AreTies (λ x. length (caller_in c) + x) (λ x. x) (globals_of (callee_in c))
globals_tie c =
    all_weaker (λ x. x < heads c) (λ x. length (caller_in c) + x ≡ x → ⊥) (λ x l e. (let a = caller_long c in let h = heads_within c in omega (arith, l, e, a, h))) (globals_of (callee_in c)) (globals_in c).within

-- at a global of the caller they take what they add at that of the callee
pub ties_at_caller : (c : CallLetter) (val : Role → ℤ) (x : ℕ) → x < heads c → others val (λ r. coefficient x r.terms) (map target_tie (globals_of (callee_in c))) (global_ties c) ≡ neg_ℤ (val (target_tie x))
ties_at_caller c val x l =
    ties_second val target_tie (λ x. length (caller_in c) + x) (λ x. x) x (globals_of (callee_in c)) (globals_tie c) ((globals_in c).member x l) (globals_in c).seconds
    (all_weaker (λ y. y < heads c) (λ y. length (caller_in c) + y ≡ x → ⊥) (λ y m e. (let a = caller_long c in let h = heads_within c in omega (arith, l, e, a, h))) (globals_of (callee_in c)) (globals_in c).within)

pub ties_at_callee : (c : CallLetter) (val : Role → ℤ) (x i : ℕ) → x ≡ width c + i → i < heads c →
    others val (λ r. coefficient x r.terms) (map target_tie (globals_of (callee_in c))) (global_ties c) ≡ val (target_tie i)
ties_at_callee c val x i e l =
    ap (λ (y : ℕ). others val (λ r. coefficient y r.terms) (map target_tie (globals_of (callee_in c))) (global_ties c)) (let a = caller_long c in let q : x ≡ length (caller_in c) + i = omega (arith, e, a) in q) ∙
    ties_first val target_tie (λ x. length (caller_in c) + x) (λ x. x) i (globals_of (callee_in c)) (globals_tie c) ((globals_in c).member i l) (globals_in c).firsts
    (all_weaker (λ y. y < heads c) (λ y. y ≡ length (caller_in c) + i → ⊥) (λ y m q. (let a = caller_long c in let h = heads_within c in omega (arith, m, q, a, h))) (globals_of (callee_in c)) (globals_in c).within)

pub ties_elsewhere : (c : CallLetter) (val : Role → ℤ) (x : ℕ) → heads c ≤ x → (x < width c) ⊎ (width c + heads c ≤ x) →
    others val (λ r. coefficient x r.terms) (map target_tie (globals_of (callee_in c))) (global_ties c) ≡ pos 0
ties_elsewhere c val x l h =
    ties_off val target_tie (λ x. length (caller_in c) + x) (λ x. x) x (globals_of (callee_in c)) (globals_tie c)
    (all_weaker (λ y. y < heads c) (λ y. (length (caller_in c) + y ≡ x → ⊥) × (y ≡ x → ⊥)) (λ y m. ((λ e. off y m e h), (λ e. omega (arith, m, e, l)))) (globals_of (callee_in c)) (globals_in c).within)
  where
    off : (y : ℕ) → y < heads c → length (caller_in c) + y ≡ x → (x < width c) ⊎ (width c + heads c ≤ x) → ⊥
    off y m e (inl k) = let a = caller_long c in omega (arith, e, k, a)
    off y m e (inr k) = let a = caller_long c in omega (arith, e, k, a, m)
