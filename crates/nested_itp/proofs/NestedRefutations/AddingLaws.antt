-- The rows of a letter in its triple's system and in the word, and how an inside letter's leaf adds up.
use Rattle.std.proofs.Common.{◌≡◌, ◌∙◌, ◌⊎◌, inl, inr, ℕ, zero, suc, ◌<◌, ◌≤◌, ℤ, pos, neg_ℤ, ◌+ℤ◌, ◌*ℤ◌, Bool, true, false, List, [], ◌∷◌, length, map, refl, sym, ap, arith}
use Rattle.std.specs.Prelude.{◌-ℤ◌, slice_index, if◌then◌else◌}
use Rattle.std.proofs.lemmas.Int.{ints}
use Rattle.math_facts.specs.Terms.{coefficient}
use Rattle.lin_rows.specs.Rows.{LinearRow}
use Rattle.lin_rows.specs.Negating.{below_opposite}
use Rattle.letter_acts.specs.FrameRows.Rows.{columns_from, renamed}
use Rattle.nested_itp.specs.NestedPredicates.Positions.{CallScope}
use Rattle.nested_itp.specs.NestedPredicates.Sums.{Branch, column_upto, bound_upto, known_sum, bound_at}
use Rattle.nested_itp.specs.NestedRefutations.Refutations.{Claim, TreeSpot, Role, spare, branch_row, View, Gathered, multiplier, is_used}
use Rattle.nested_itp.specs.NestedRefutations.Numbers.{branch_rows}
use Rattle.nested_itp.proofs.NestedRefutations.RowsLaws.{AllPairs}
use Rattle.nested_itp.proofs.NestedRefutations.WayLaws.{others, is_own, own_sum}
use Rattle.nested_itp.proofs.NestedRefutations.ContentLaws.{IsHit, hit_or_off}
use Rattle.nested_itp.proofs.NestedRefutations.ClaimLaws.{sum_row, column_added, bound_added, IsTold, columns_added, bounds_added, AddsUp}
use Rattle.nested_itp.proofs.NestedRefutations.WindowLaws.{if_passes, passing}
use Rattle.nested_itp.proofs.NestedRefutations.ColumnLaws.{known_in, claim_at, claim_off}

-- ---- rows in the system and in the word

nothing : (z : ℤ) → pos 0 *ℤ z ≡ pos 0
nothing z = omega (arith, ints)

pub spares_add : (val : Role → ℤ) (number : LinearRow → ℤ) (k count : ℕ) (rows : List LinearRow) → others val number (map (λ r. spare) (columns_from k count)) rows ≡ pos 0
spares_add val number k zero rows = refl
spares_add val number k (suc count) [] = refl
spares_add val number k (suc count) (x ∷ rows) =
    let h : others val number (map (λ r. spare) (columns_from (suc k) count)) rows ≡ pos 0 = spares_add val number (suc k) count rows in
    let z = nothing (number x) in
    omega (arith, ints, h, z)

-- rows that have the multipliers of the word's rows with these numbers, where each has the same number in the system and in the word
pub rows_add : (v : View) (val : Role → ℤ) (number other : LinearRow → ℤ) (k : ℕ) (rows block : List LinearRow) (now : List ℕ) → AllPairs (λ r s. number r ≡ other s) rows block →
    AllPairs (λ r s. is_own v s ≡ true) block now →
    others val number (branch_rows k (length rows)) rows ≡ passing (is_own v) (λ j. val (branch_row j)) other k block now
rows_add v val number other k [] [] [] h p = refl
rows_add v val number other k [] [] (s ∷ now) h p = absurd p
rows_add v val number other k [] (y ∷ block) now h p = absurd h
rows_add v val number other k (x ∷ rows) [] now h p = absurd h
rows_add v val number other k (x ∷ rows) (y ∷ block) [] h p = absurd p
rows_add v val number other k (x ∷ rows) (y ∷ block) (s ∷ now) h p =
    let m : others val number (branch_rows (suc k) (length rows)) rows ≡ passing (is_own v) (λ j. val (branch_row j)) other (suc k) block now = rows_add v val number other (suc k) rows block now h.1 p.1 in
    let e : val (branch_row k) *ℤ number x ≡ val (branch_row k) *ℤ other y = ap (λ (z : ℤ). val (branch_row k) *ℤ z) h.0 in
    let f : if_passes (is_own v) (val (branch_row k) *ℤ other y) s ≡ val (branch_row k) *ℤ other y = ap (λ (z : Bool). if z then val (branch_row k) *ℤ other y else pos 0) p.0 in
    omega (arith, ints, m, e, f)

-- ---- an inside letter

-- What is known of an inside letter's leaf: the sums at the two positions, which have one scope, and what the rows of the letter and
-- own cuts add, which is the difference of the word's sums up to the two stamps.
pub record InsideLeaf (v : View) (root : TreeSpot) (first : Gathered) (more : List LinearRow) (late : List ℕ) (n : ℕ) (b : Branch) (parts : List (ℕ × ℤ)) : Type 0 where
  pub before : Claim
  pub after : Claim
  pub claims : v.claims ≡ before ∷ after ∷ []
  pub returns : v.returns ≡ false
  pub holds : before.is_denied ≡ false
  pub fails : after.is_denied ≡ true
  pub scope : before.position.scope ≡ after.position.scope
  pub told : IsTold before
  pub told_after : IsTold after
  pub same_column : (j : ℕ) → before.column j ≡ j
  pub long : length after.position.here ≡ length before.position.here
  -- how many columns the system has, and the version of each
  pub width : ℕ
  pub wide : length before.position.here ≤ width
  pub hit_below : (j : ℕ) → j < length after.position.here → after.column j < width
  pub version : ℕ → ℕ
  pub added : (x : ℕ) → x < width → others (multiplier v n b parts) (λ r. coefficient x r.terms) first.roles first.rows +ℤ
      own_sum v (multiplier v n b parts) (λ r. coefficient x r.terms) (length root.branch.rows) more late ≡
      column_upto b parts after.position.upto (version x) -ℤ column_upto b parts before.position.upto (version x)
  pub added_bound : others (multiplier v n b parts) (λ r. r.bound) first.roles first.rows +ℤ
      own_sum v (multiplier v n b parts) (λ r. r.bound) (length root.branch.rows) more late ≡
      bound_upto b parts after.position.upto -ℤ bound_upto b parts before.position.upto
  pub past : (x : ℕ) → width ≤ x → others (multiplier v n b parts) (λ r. coefficient x r.terms) first.roles first.rows +ℤ
      own_sum v (multiplier v n b parts) (λ r. coefficient x r.terms) (length root.branch.rows) more late ≡ pos 0
  pub here : (j : ℕ) → j < length before.position.here → version j ≡ slice_index before.position.here j
  pub there : (j : ℕ) → j < length after.position.here → version (after.column j) ≡ slice_index after.position.here j
  -- a column that is written: its old version is gone, its new one is new, and the caller's sum does not speak of it
  pub gone : (x : ℕ) → x < width → ((j : ℕ) → j < length after.position.here → after.column j ≡ x → ⊥) → column_upto b parts after.position.upto (version x) ≡ pos 0
  pub gone_known : (x : ℕ) → x < length before.position.here → ((j : ℕ) → j < length after.position.here → after.column j ≡ x → ⊥) →
      known_sum b parts before.position.scope.own (known_in before.position.scope.known x) ≡ pos 0
  pub new : (x : ℕ) → length before.position.here ≤ x → x < width → column_upto b parts before.position.upto (version x) ≡ pos 0
  pub new_known : (j : ℕ) → j < length after.position.here → length before.position.here ≤ after.column j →
      known_sum b parts before.position.scope.own (known_in before.position.scope.known j) ≡ pos 0
  pub kept : (j : ℕ) → j < length after.position.here → after.column j < length before.position.here → after.column j ≡ j

-- a claim's sum at a column of the system
abbrev claim_sum : Claim → Branch → List (ℕ × ℤ) → ℕ → ℤ
claim_sum c b parts x = coefficient x (renamed c.column (sum_row c b parts)).terms

below_or : (x n : ℕ) → (x < n) ⊎ (n ≤ x)
below_or x zero = inr (omega arith)
below_or zero (suc n) = inl (omega arith)
below_or (suc x) (suc n) = by_rest (below_or x n)
  where
    by_rest : (x < n) ⊎ (n ≤ x) → (suc x < suc n) ⊎ (suc n ≤ suc x)
    by_rest (inl l) = inl (omega (arith, l))
    by_rest (inr l) = inr (omega (arith, l))

used_true : (v : View) (i : ℕ) → v.returns ≡ false → is_used v i ≡ true
used_true v i e = rw e refl

pub inside_adds : (v : View) (root : TreeSpot) (first : Gathered) (more : List LinearRow) (late : List ℕ) (n : ℕ) (b : Branch) (parts : List (ℕ × ℤ)) → InsideLeaf v root first more late n b parts →
    AddsUp v root first more late n b parts
inside_adds v root first more late n b parts h = record {
  columns = λ x. by_width x (below_or x h.width);
  bound =
      (let a = h.added_bound in
      let u0 : is_used v 0 ≡ true = used_true v 0 h.returns in
      let u1 : is_used v 1 ≡ true = used_true v 1 h.returns in
      let s : bounds_added v b parts 0 v.claims ≡ bound_at b parts h.before.position +ℤ below_opposite (bound_at b parts h.after.position) = two_bounds u0 u1 in
      let o : bound_upto b parts h.before.position.scope.own ≡ bound_upto b parts h.after.position.scope.own = ap (λ (c : CallScope). bound_upto b parts c.own) h.scope in
      omega (arith, ints, a, s, o));
}
  where
    two_bounds : is_used v 0 ≡ true → is_used v 1 ≡ true → bounds_added v b parts 0 v.claims ≡ bound_at b parts h.before.position +ℤ below_opposite (bound_at b parts h.after.position)
    two_bounds u0 u1 =
        let e : bounds_added v b parts 0 v.claims ≡ bounds_added v b parts 0 (h.before ∷ h.after ∷ []) = ap (bounds_added v b parts 0) h.claims in
        let p : (if is_used v 0 then bound_added h.before b parts else pos 0) ≡ bound_at b parts h.before.position =
        ap (λ (z : Bool). if z then bound_added h.before b parts else pos 0) u0 ∙ ap (λ (z : Bool). if z then below_opposite (bound_at b parts h.before.position) else bound_at b parts h.before.position) h.holds in
        let q : (if is_used v 1 then bound_added h.after b parts else pos 0) ≡ below_opposite (bound_at b parts h.after.position) =
        ap (λ (z : Bool). if z then bound_added h.after b parts else pos 0) u1 ∙ ap (λ (z : Bool). if z then below_opposite (bound_at b parts h.after.position) else bound_at b parts h.after.position) h.fails in
        omega (arith, ints, e, p, q)

    two_columns : (x : ℕ) → is_used v 0 ≡ true → is_used v 1 ≡ true → columns_added v b parts x 0 v.claims ≡ claim_sum h.before b parts x +ℤ neg_ℤ (claim_sum h.after b parts x)
    two_columns x u0 u1 =
        let e : columns_added v b parts x 0 v.claims ≡ columns_added v b parts x 0 (h.before ∷ h.after ∷ []) = ap (columns_added v b parts x 0) h.claims in
        let p : (if is_used v 0 then column_added h.before b parts x else pos 0) ≡ claim_sum h.before b parts x =
        ap (λ (z : Bool). if z then column_added h.before b parts x else pos 0) u0 ∙ ap (λ (z : Bool). if z then neg_ℤ (claim_sum h.before b parts x) else claim_sum h.before b parts x) h.holds in
        let q : (if is_used v 1 then column_added h.after b parts x else pos 0) ≡ neg_ℤ (claim_sum h.after b parts x) =
        ap (λ (z : Bool). if z then column_added h.after b parts x else pos 0) u1 ∙ ap (λ (z : Bool). if z then neg_ℤ (claim_sum h.after b parts x) else claim_sum h.after b parts x) h.fails in
        omega (arith, ints, e, p, q)

    -- the source's sum at a column of its frame, and at another
    source_at : (x : ℕ) → x < length h.before.position.here → claim_sum h.before b parts x ≡
        column_upto b parts h.before.position.upto (h.version x) -ℤ known_sum b parts h.before.position.scope.own (known_in h.before.position.scope.known x)
    source_at x l =
        ap (λ (y : ℕ). claim_sum h.before b parts y) (sym (h.same_column x)) ∙ claim_at h.before b parts h.told x l ∙
        ap (λ (y : ℕ). column_upto b parts h.before.position.upto y -ℤ known_sum b parts h.before.position.scope.own (known_in h.before.position.scope.known x)) (sym (h.here x l))

    source_off : (x : ℕ) → length h.before.position.here ≤ x → claim_sum h.before b parts x ≡ pos 0
    source_off x l = claim_off h.before b parts x (λ j k e. (let s = h.same_column j in omega (arith, l, k, e, s)))

    target_at : (x : ℕ) → (k : IsHit (length h.after.position.here) h.after.column x) → claim_sum h.after b parts x ≡
        column_upto b parts h.after.position.upto (h.version x) -ℤ known_sum b parts h.before.position.scope.own (known_in h.before.position.scope.known k.column)
    target_at x k =
        ap (λ (y : ℕ). claim_sum h.after b parts y) (sym k.hits) ∙ claim_at h.after b parts h.told_after k.column k.below ∙
        ap (λ (y : ℕ). column_upto b parts h.after.position.upto y -ℤ known_sum b parts h.after.position.scope.own (known_in h.after.position.scope.known k.column))
        (sym (h.there k.column k.below) ∙ ap h.version k.hits) ∙
        ap (λ (c : CallScope). column_upto b parts h.after.position.upto (h.version x) -ℤ known_sum b parts c.own (known_in c.known k.column)) (sym h.scope)

    column_adds : (x : ℕ) → x < h.width → (x < length h.before.position.here) ⊎ (length h.before.position.here ≤ x) →
        IsHit (length h.after.position.here) h.after.column x ⊎ ((j : ℕ) → j < length h.after.position.here → h.after.column j ≡ x → ⊥) →
        (others (multiplier v n b parts) (λ r. coefficient x r.terms) first.roles first.rows +ℤ own_sum v (multiplier v n b parts) (λ r. coefficient x r.terms) (length root.branch.rows) more late) +ℤ
        columns_added v b parts x 0 v.claims ≡ pos 0
    column_adds x w (inl l) (inl k) =
        let a = h.added x w in
        let c = two_columns x (used_true v 0 h.returns) (used_true v 1 h.returns) in
        let s = source_at x l in
        let t = target_at x k in
        let m : k.column ≡ x = sym (h.kept k.column k.below (let e = k.hits in omega (arith, l, e))) ∙ k.hits in
        let d : known_sum b parts h.before.position.scope.own (known_in h.before.position.scope.known k.column) ≡ known_sum b parts h.before.position.scope.own (known_in h.before.position.scope.known x) =
        ap (λ (j : ℕ). known_sum b parts h.before.position.scope.own (known_in h.before.position.scope.known j)) m in
        omega (arith, ints, a, c, s, t, d)
    column_adds x w (inl l) (inr off) =
        let a = h.added x w in
        let c = two_columns x (used_true v 0 h.returns) (used_true v 1 h.returns) in
        let s = source_at x l in
        let t : claim_sum h.after b parts x ≡ pos 0 = claim_off h.after b parts x off in
        let g = h.gone x w off in
        let d = h.gone_known x l off in
        omega (arith, ints, a, c, s, t, g, d)
    column_adds x w (inr l) (inl k) =
        let a = h.added x w in
        let c = two_columns x (used_true v 0 h.returns) (used_true v 1 h.returns) in
        let s = source_off x l in
        let t = target_at x k in
        let e = h.new x l w in
        let d = h.new_known k.column k.below (let e = k.hits in omega (arith, l, e)) in
        omega (arith, ints, a, c, s, t, e, d)
    column_adds x w (inr l) (inr off) =
        let a = h.added x w in
        let c = two_columns x (used_true v 0 h.returns) (used_true v 1 h.returns) in
        let s = source_off x l in
        let t : claim_sum h.after b parts x ≡ pos 0 = claim_off h.after b parts x off in
        let g = h.gone x w off in
        let e = h.new x l w in
        omega (arith, ints, a, c, s, t, g, e)

    by_width : (x : ℕ) → (x < h.width) ⊎ (h.width ≤ x) →
        (others (multiplier v n b parts) (λ r. coefficient x r.terms) first.roles first.rows +ℤ own_sum v (multiplier v n b parts) (λ r. coefficient x r.terms) (length root.branch.rows) more late) +ℤ
        columns_added v b parts x 0 v.claims ≡ pos 0
    by_width x (inl w) = column_adds x w (below_or x (length h.before.position.here)) (hit_or_off (length h.after.position.here) h.after.column x)
    by_width x (inr w) =
        let a = h.past x w in
        let c = two_columns x (used_true v 0 h.returns) (used_true v 1 h.returns) in
        let l = h.wide in
        let s = source_off x (omega (arith, l, w)) in
        let t : claim_sum h.after b parts x ≡ pos 0 = claim_off h.after b parts x (λ j k e. (let m = h.hit_below j k in omega (arith, m, w, e))) in
        omega (arith, ints, a, c, s, t)
