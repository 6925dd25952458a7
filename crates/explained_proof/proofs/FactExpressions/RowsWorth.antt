-- What rows say together: an equality where two of them are opposite, and at the entry by the columns that speak of it.
use Rattle.std.proofs.Common.{◌≡◌, ◌∙◌, ◌⊎◌, inl, inr, ℕ, zero, suc, ℤ, negsuc, neg_ℤ, ◌+ℤ◌, ◌*ℤ◌, ◌≤ℤ◌, ◌<ℤ◌, Bool, true, false, not, List, [], ◌∷◌, ◌++◌, map, Option, None, Some, refl, sym, ap, subst, arith, append_assoc}
use Rattle.std.specs.Prelude.{◌&&◌, ◌||◌, int_le, is_some, if◌then◌else◌}
use Rattle.std.specs.List.{list_any, list_all}
use Rattle.std.proofs.lemmas.List.Folds.{list_all-append, list_any-append}
use Rattle.std.specs.Ordering.{int_eq}
use Rattle.std.proofs.lemmas.Bool.{false≢true, or_left, or_right}
use Rattle.std.proofs.lemmas.Int.{ints}
use Rattle.math_facts.specs.Terms.{dot, opposite}
use Rattle.math_facts.proofs.TermLaws.{dot-opposite}
use Rattle.lin_rows.specs.declared.types.RowKind.{RowKind}
use Rattle.lin_rows.specs.declared.types.RowKind.TheVariants.{Le, Eq}
use Rattle.lin_rows.specs.Rows.{LinearRow, Holds, Stands}
use Rattle.lin_rows.specs.Sums.{row_of}
use Rattle.lin_rows.specs.Tightening.{content, divided_row, tightened_by, tightened}
use Rattle.lin_rows.proofs.SummedLaws.{dot-summed}
use Rattle.lin_rows.proofs.TighteningLaw.{holds_tightened_by}
use Rattle.boogie_tree.specs.Tree.{Expression}
use Rattle.explained_proof.specs.BuiltExpressions.Members.{always, denied}
use Rattle.explained_proof.specs.BuiltExpressions.Laws.{all_hold}
use Rattle.explained_proof.proofs.BuiltExpressions.TruthLaws.{two_hold}
use Rattle.explained_proof.specs.RowExpressions.Scopes.{ClauseScope, is_of_entry, entry_column}
use Rattle.explained_proof.specs.RowExpressions.Rows.{row_said}
use Rattle.explained_proof.specs.RowExpressions.Worth.{row_holds}
use Rattle.explained_proof.proofs.RowExpressions.RowWorth.{conclusions_follow, premises_imply}
use Rattle.explained_proof.specs.FactExpressions.EntryRows.{opposite_terms, are_opposite, has_opposite, cover_all, sums_fit, entry_terms, entry_row, with_row_if, merged, row_said_at, rows_said, entry_said, told_rows}
use Rattle.explained_proof.specs.FactExpressions.Worth.{IsAt}
use Rattle.explained_proof.proofs.FactExpressions.Truths.{both_true, and_true, same_truth, all_so, found}
use Rattle.explained_proof.proofs.FactExpressions.TreeWorth.{le_yes, yes_le, eq_yes, yes_eq, terms_same, same_terms_to, as_inequality}
use Rattle.explained_proof.proofs.FactExpressions.FactWorth.{with_row_holds}

-- ---- opposite rows

neg_neg : (z : ℤ) → neg_ℤ (neg_ℤ z) ≡ z
neg_neg z = omega (arith, ints)

twice_opposite : (ts : List (ℕ × ℤ)) → opposite (opposite ts) ≡ ts
twice_opposite [] = refl
twice_opposite (t ∷ ts) = ap (λ z. (t.0, z) ∷ opposite (opposite ts)) (neg_neg t.1) ∙ ap (λ us. t ∷ us) (twice_opposite ts)

other_bound : (a b : ℤ) → a ≡ neg_ℤ b → b ≡ neg_ℤ a
other_bound a b h = omega (arith, ints)

opposite_back : (r s : LinearRow) → are_opposite r s ≡ true → are_opposite s r ≡ true
opposite_back r s h =
    let a = both_true (int_eq r.bound (neg_ℤ s.bound)) (opposite_terms r s) h in
    and_true (int_eq s.bound (neg_ℤ r.bound)) (opposite_terms s r) (yes_eq s.bound (neg_ℤ r.bound) (other_bound r.bound s.bound (eq_yes r.bound (neg_ℤ s.bound) a.0)))
    (same_terms_to s.terms (opposite r.terms) (sym (ap opposite (terms_same r.terms (opposite s.terms) a.1) ∙ twice_opposite s.terms)))

pub opposite_sum : (point : ℕ → ℤ) (r s : LinearRow) → opposite_terms r s ≡ true → dot point r.terms ≡ neg_ℤ (dot point s.terms)
opposite_sum point r s h = ap (dot point) (terms_same r.terms (opposite s.terms) h) ∙ dot-opposite point s.terms

between : (d e a b : ℤ) → d ≡ neg_ℤ e → a ≡ neg_ℤ b → d ≤ℤ a → e ≤ℤ b → d ≡ a
between d e a b h k p q = omega (arith, ints)

same_other : (d e a b : ℤ) → d ≡ neg_ℤ e → a ≡ neg_ℤ b → e ≡ b → d ≡ a
same_other d e a b h k p = omega (arith, ints)

gap_none : (d e a b : ℤ) → d ≡ neg_ℤ e → negsuc 0 ≤ℤ (a +ℤ b) → (int_le d a ≡ false) → (int_le e b ≡ false) → ⊥
gap_none d e a b h k p q = gap (no_le d a p) (no_le e b q)
  where
    no_le : (x y : ℤ) → int_le x y ≡ false → y <ℤ x
    no_le x y f = grind (arith, ints)

    gap : a <ℤ d → b <ℤ e → ⊥
    gap x y = omega (arith, ints, x, y, h, k)

-- of two rows that leave nothing between them one holds
pub one_covers : (point : ℕ → ℤ) (r s : LinearRow) → cover_all r s ≡ true → (row_holds point r false ≡ true) ⊎ (row_holds point s false ≡ true)
one_covers point r s h =
    let a = both_true (int_le (negsuc 0) (r.bound +ℤ s.bound)) (opposite_terms r s) h in
    by (int_le (dot point r.terms) r.bound) (int_le (dot point s.terms) s.bound) refl refl (opposite_sum point r s a.1) (le_yes (negsuc 0) (r.bound +ℤ s.bound) a.0)
  where
    by : (x y : Bool) → int_le (dot point r.terms) r.bound ≡ x → int_le (dot point s.terms) s.bound ≡ y → dot point r.terms ≡ neg_ℤ (dot point s.terms) → negsuc 0 ≤ℤ (r.bound +ℤ s.bound) →
        (row_holds point r false ≡ true) ⊎ (row_holds point s false ≡ true)
    by true y e f p q = inl e
    by false true e f p q = inr f
    by false false e f p q = absurd (gap_none (dot point r.terms) (dot point s.terms) r.bound s.bound p q e f)

module _ (point : ℕ → ℤ) where
  abbrev meets_row : LinearRow → Bool
  meets_row r = row_holds point r false

  two_make_one : (r s : LinearRow) → are_opposite r s ≡ true → meets_row r ≡ true → meets_row s ≡ true → row_holds point r true ≡ true
  two_make_one r s h j k =
      let a = both_true (int_eq r.bound (neg_ℤ s.bound)) (opposite_terms r s) h in
      yes_eq (dot point r.terms) r.bound
      (between (dot point r.terms) (dot point s.terms) r.bound s.bound (opposite_sum point r s a.1) (eq_yes r.bound (neg_ℤ s.bound) a.0) (le_yes (dot point r.terms) r.bound j) (le_yes (dot point s.terms) s.bound k))

  other_makes_one : (r s : LinearRow) → are_opposite r s ≡ true → row_holds point s true ≡ true → row_holds point r true ≡ true
  other_makes_one r s h k =
      let a = both_true (int_eq r.bound (neg_ℤ s.bound)) (opposite_terms r s) h in
      yes_eq (dot point r.terms) r.bound
      (same_other (dot point r.terms) (dot point s.terms) r.bound s.bound (opposite_sum point r s a.1) (eq_yes r.bound (neg_ℤ s.bound) a.0) (eq_yes (dot point s.terms) s.bound k))

  equal_below : (d b : ℤ) → d ≡ b → d ≤ℤ b
  equal_below d b h = omega (arith, ints)

  -- an equality holds either way
  either_way : (r : LinearRow) (b : Bool) → row_holds point r true ≡ true → row_holds point r b ≡ true
  either_way r true h = h
  either_way r false h = yes_le (dot point r.terms) r.bound (equal_below (dot point r.terms) r.bound (eq_yes (dot point r.terms) r.bound h))

  as_inequalities : (r : LinearRow) (b : Bool) → row_holds point r b ≡ true → meets_row r ≡ true
  as_inequalities r true h = either_way r false h
  as_inequalities r false h = h

  module _ (worth : Expression → ℤ) (holds : Expression → Bool) (s : ClauseScope) (is_at : IsAt worth holds s point) where
    -- ---- conclusions
    conclude_at : (premise : s.premise ≡ false) (before : Bool) (r : LinearRow) (rs : List LinearRow) → list_all meets_row (r ∷ rs) ≡ true →
        all_hold holds (if before then always else row_said s r (has_opposite (r ∷ rs) r)) ≡ true
    conclude_at premise true r rs h = refl
    conclude_at premise false r rs h = conclusions_follow worth holds s point r (has_opposite (r ∷ rs) r) is_at.reading is_at.columns premise (by (has_opposite (r ∷ rs) r) refl)
      where
        here : meets_row r ≡ true
        here = (both_true (meets_row r) (list_all meets_row rs) h).0

        by : (b : Bool) → has_opposite (r ∷ rs) r ≡ b → row_holds point r b ≡ true
        by true e = let w = found (are_opposite r) meets_row (r ∷ rs) e h in two_make_one r w.0 w.1 here w.2
        by false e = here

    pub rows_follow : s.premise ≡ false → (before rs : List LinearRow) → list_all meets_row rs ≡ true → all_hold holds (rows_said s before rs) ≡ true
    rows_follow premise before [] h = refl
    rows_follow premise before (r ∷ rs) h =
        two_hold holds (row_said_at s before (r ∷ rs)) (rows_said s (before ++ r ∷ []) rs) ∙
        and_true (all_hold holds (row_said_at s before (r ∷ rs))) (all_hold holds (rows_said s (before ++ r ∷ []) rs)) (conclude_at premise (has_opposite before r) r rs h)
        (rows_follow premise (before ++ r ∷ []) rs (both_true (meets_row r) (list_all meets_row rs) h).1)

    -- ---- premises, where all rows are these
    abbrev as_said : List LinearRow → LinearRow → Bool
    as_said all r = row_holds point r (has_opposite all r)

    or_none : (a b : Bool) → a ≡ false → (a || b) ≡ b
    or_none true b e = absurd (false≢true (sym e))
    or_none false b e = refl

    implied_at : s.premise ≡ true → (all before rs : List LinearRow) (r : LinearRow) → all ≡ before ++ r ∷ rs → list_all (as_said all) before ≡ true →
        all_hold holds (row_said_at s before (r ∷ rs)) ≡ true → as_said all r ≡ true
    implied_at premise all before rs r e b h = by (has_opposite before r) refl h
      where
        here : (q : LinearRow) → are_opposite q r ≡ true → has_opposite all q ≡ true
        here q f =
            ap (list_any (are_opposite q)) e ∙ list_any-append (are_opposite q) before (r ∷ rs) ∙
            or_right (list_any (are_opposite q) before) (list_any (are_opposite q) (r ∷ rs)) (or_left (are_opposite q r) (list_any (are_opposite q) rs) f)

        from : (q : LinearRow) → are_opposite r q ≡ true → as_said all q ≡ true → as_said all r ≡ true
        from q f k = either_way r (has_opposite all r) (other_makes_one r q f (subst (λ x. row_holds point q x ≡ true) (here q (opposite_back r q f)) k))

        by : (x : Bool) → has_opposite before r ≡ x → all_hold holds (if x then always else row_said s r (has_opposite (r ∷ rs) r)) ≡ true → as_said all r ≡ true
        by true f k = let w = found (are_opposite r) (as_said all) before f b in from w.0 w.1 w.2
        by false f k =
            subst (λ x. row_holds point r x ≡ true)
            (sym (ap (list_any (are_opposite r)) e ∙ list_any-append (are_opposite r) before (r ∷ rs) ∙ or_none (has_opposite before r) (has_opposite (r ∷ rs) r) f))
            (premises_imply worth holds s point r (has_opposite (r ∷ rs) r) is_at.reading is_at.columns premise k)

    implied_from : s.premise ≡ true → (all before rs : List LinearRow) → all ≡ before ++ rs → list_all (as_said all) before ≡ true → all_hold holds (rows_said s before rs) ≡ true →
        list_all (as_said all) rs ≡ true
    implied_from premise all before [] e b h = refl
    implied_from premise all before (r ∷ rs) e b h =
        let a = both_true (all_hold holds (row_said_at s before (r ∷ rs))) (all_hold holds (rows_said s (before ++ r ∷ []) rs))
        (sym (two_hold holds (row_said_at s before (r ∷ rs)) (rows_said s (before ++ r ∷ []) rs)) ∙ h) in
        let here = implied_at premise all before rs r e b a.0 in
        and_true (as_said all r) (list_all (as_said all) rs) here
        (implied_from premise all (before ++ r ∷ []) rs (e ∙ sym (append_assoc before (r ∷ []) rs))
        (list_all-append (as_said all) before (r ∷ []) ∙ and_true (list_all (as_said all) before) (as_said all r && true) b (and_true (as_said all r) true here refl)) a.1)

    pub rows_implied : s.premise ≡ true → (rs : List LinearRow) → all_hold holds (rows_said s [] rs) ≡ true → list_all meets_row rs ≡ true
    rows_implied premise rs h =
        all_so (as_said rs) meets_row rs (implied_from premise rs [] rs refl refl h) (λ r k. as_inequalities r (has_opposite rs r) k)

    -- ---- at the entry

    tight_kind : (g : ℕ) (x : LinearRow) → x.kind ≡ Le → (tightened_by g x).kind ≡ Le
    tight_kind zero x e = e
    tight_kind (suc g) x e = by x.kind e
      where
        by : (k : RowKind) → k ≡ Le → (divided_row k (suc g) x.terms x.bound).kind ≡ Le
        by Le f = refl
        by Eq f = let no : ⊥ = cc in absurd no

    tight_meets : (x : LinearRow) → x.kind ≡ Le → meets_row (tightened x) ≡ meets_row x
    tight_meets x e =
        same_truth (meets_row (tightened x)) (meets_row x)
        (λ h. as_test x ((holds_tightened_by point x (content x.terms) refl).1 (as_inequality point (tightened x) (tight_kind (content x.terms) x e) h)) e)
        (λ h. as_test (tightened x) ((holds_tightened_by point x (content x.terms) refl).0 (as_inequality point x e h)) (tight_kind (content x.terms) x e))
      where
        as_test : (y : LinearRow) → Holds point y → y.kind ≡ Le → meets_row y ≡ true
        as_test y h k = yes_le (dot point y.terms) y.bound (subst (λ j. Stands j (dot point y.terms) y.bound) k h)

    entry_dot : ((n : ℕ) → point (entry_column s n) ≡ point n) → (ts : List (ℕ × ℤ)) → dot point (entry_terms s ts) ≡ dot point ts
    entry_dot e [] = refl
    entry_dot e (t ∷ ts) = ap (λ z. (t.1 *ℤ z) +ℤ dot point (entry_terms s ts)) (e t.0) ∙ ap (λ z. (t.1 *ℤ point t.0) +ℤ z) (entry_dot e ts)

    made_meets : ((n : ℕ) → point (entry_column s n) ≡ point n) → (r : LinearRow) → meets_row (tightened (row_of (entry_terms s r.terms) Le r.bound)) ≡ meets_row r
    made_meets e r =
        tight_meets (row_of (entry_terms s r.terms) Le r.bound) refl ∙
        ap (λ z. int_le z r.bound) (dot-summed point (entry_terms s r.terms) ∙ entry_dot e r.terms)

    abbrev meets_if : Option LinearRow → Bool
    meets_if None = true
    meets_if (Some r) = meets_row r

    if_meets : (b : Bool) (q r : LinearRow) → meets_row q ≡ meets_row r → meets_row r ≡ true → meets_if (if b then Some q else None) ≡ true
    if_meets true q r e h = e ∙ h
    if_meets false q r e h = refl

    if_meets_back : (b : Bool) (q r : LinearRow) → meets_row q ≡ meets_row r → is_some (if b then Some q else None) ≡ true → meets_if (if b then Some q else None) ≡ true → meets_row r ≡ true
    if_meets_back true q r e i h = sym e ∙ h
    if_meets_back false q r e i h = absurd (false≢true i)

    entry_meets : ((n : ℕ) → point (entry_column s n) ≡ point n) → (r : LinearRow) → meets_row r ≡ true → meets_if (entry_row s r) ≡ true
    entry_meets e r h = if_meets (sums_fit [] (entry_terms s r.terms)) (tightened (row_of (entry_terms s r.terms) Le r.bound)) r (made_meets e r) h

    entry_meets_back : ((n : ℕ) → point (entry_column s n) ≡ point n) → (r : LinearRow) → is_some (entry_row s r) ≡ true → meets_if (entry_row s r) ≡ true → meets_row r ≡ true
    entry_meets_back e r i h = if_meets_back (sums_fit [] (entry_terms s r.terms)) (tightened (row_of (entry_terms s r.terms) Le r.bound)) r (made_meets e r) i h

    with_if_holds : (o : Option LinearRow) (rs : List LinearRow) → list_all meets_row (with_row_if o rs) ≡ (meets_if o && list_all meets_row rs)
    with_if_holds None rs = refl
    with_if_holds (Some r) rs = with_row_holds point r rs

    swap_ends : (a b c : Bool) → (a && (b && c)) ≡ ((b && a) && c)
    swap_ends true true c = refl
    swap_ends true false c = refl
    swap_ends false true c = refl
    swap_ends false false c = refl

    merged_holds : (os : List (Option LinearRow)) (rs : List LinearRow) → list_all meets_row (merged os rs) ≡ (list_all meets_if os && list_all meets_row rs)
    merged_holds [] rs = refl
    merged_holds (o ∷ os) rs =
        merged_holds os (with_row_if o rs) ∙ ap (λ b. list_all meets_if os && b) (with_if_holds o rs) ∙ swap_ends (list_all meets_if os) (meets_if o) (list_all meets_row rs)

    all_then : (a : Bool) → a ≡ true → (a && true) ≡ true
    all_then a h = and_true a true h refl

    entry_follows_by : (p : Bool) → s.premise ≡ false → (os : List (Option LinearRow)) → s.premise ≡ p → list_all meets_if os ≡ true →
        all_hold holds (if p && not (list_all is_some os) then denied else rows_said s [] (merged os [])) ≡ true
    entry_follows_by true premise os e h = absurd (false≢true (sym premise ∙ e))
    entry_follows_by false premise os e h = rows_follow premise [] (merged os []) (merged_holds os [] ∙ all_then (list_all meets_if os) h)

    entry_implied_by : (p x : Bool) → s.premise ≡ true → (os : List (Option LinearRow)) → s.premise ≡ p → list_all is_some os ≡ x →
        all_hold holds (if p && not x then denied else rows_said s [] (merged os [])) ≡ true → (list_all is_some os ≡ true) × (list_all meets_if os ≡ true)
    entry_implied_by true true premise os e f h = (f, (both_true (list_all meets_if os) true (sym (merged_holds os []) ∙ rows_implied premise (merged os []) h)).0)
    entry_implied_by true false premise os e f h = absurd (false≢true h)
    entry_implied_by false x premise os e f h = absurd (false≢true (sym e ∙ premise))

    each_meets : ((n : ℕ) → point (entry_column s n) ≡ point n) → (rs : List LinearRow) → list_all meets_row rs ≡ true → list_all meets_if (map (entry_row s) rs) ≡ true
    each_meets e [] h = refl
    each_meets e (r ∷ rs) h =
        let a = both_true (meets_row r) (list_all meets_row rs) h in
        and_true (meets_if (entry_row s r)) (list_all meets_if (map (entry_row s) rs)) (entry_meets e r a.0) (each_meets e rs a.1)

    each_meets_back : ((n : ℕ) → point (entry_column s n) ≡ point n) → (rs : List LinearRow) → list_all is_some (map (entry_row s) rs) ≡ true →
        list_all meets_if (map (entry_row s) rs) ≡ true → list_all meets_row rs ≡ true
    each_meets_back e [] i h = refl
    each_meets_back e (r ∷ rs) i h =
        let a = both_true (is_some (entry_row s r)) (list_all is_some (map (entry_row s) rs)) i in
        let b = both_true (meets_if (entry_row s r)) (list_all meets_if (map (entry_row s) rs)) h in
        and_true (meets_row r) (list_all meets_row rs) (entry_meets_back e r a.0 b.0) (each_meets_back e rs a.1 b.1)

    -- ---- rows where the clause stands

    told_follows_by : (b : Bool) → s.premise ≡ false → (rs : List LinearRow) → is_of_entry s ≡ b → list_all meets_row rs ≡ true →
        all_hold holds (if b then entry_said s (map (entry_row s) rs) else rows_said s [] rs) ≡ true
    told_follows_by true premise rs e h = entry_follows_by s.premise premise (map (entry_row s) rs) refl (each_meets (is_at.entry e) rs h)
    told_follows_by false premise rs e h = rows_follow premise [] rs h

    pub told_follows : s.premise ≡ false → (rs : List LinearRow) → list_all meets_row rs ≡ true → all_hold holds (told_rows s rs) ≡ true
    told_follows premise rs h = told_follows_by (is_of_entry s) premise rs refl h

    told_implied_by : (b : Bool) → s.premise ≡ true → (rs : List LinearRow) → is_of_entry s ≡ b →
        all_hold holds (if b then entry_said s (map (entry_row s) rs) else rows_said s [] rs) ≡ true → list_all meets_row rs ≡ true
    told_implied_by true premise rs e h =
        let a = entry_implied_by s.premise (list_all is_some (map (entry_row s) rs)) premise (map (entry_row s) rs) refl refl h in
        each_meets_back (is_at.entry e) rs a.0 a.1
    told_implied_by false premise rs e h = rows_implied premise rs h

    pub told_implied : s.premise ≡ true → (rs : List LinearRow) → all_hold holds (told_rows s rs) ≡ true → list_all meets_row rs ≡ true
    told_implied premise rs h = told_implied_by (is_of_entry s) premise rs refl h
