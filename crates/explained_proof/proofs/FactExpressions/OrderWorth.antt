-- A disjunction of facts, without those that imply others and with what all share once, holds exactly where one of the facts does.
use Rattle.std.proofs.Common.{◌≡◌, ◌∙◌, ◌⊎◌, inl, inr, ℕ, zero, suc, ◌+◌, ◌<◌, ℤ, Bool, true, false, not, List, [], ◌∷◌, map, length, get_or, nat_eq, nat_lt, refl, sym, ap, subst, arith}
use Rattle.std.specs.Prelude.{◌&&◌, ◌||◌}
use Rattle.std.specs.List.{list_any, list_all}
use Rattle.std.proofs.lemmas.Bool.{eq-eqb, ne_eqb, ltb-true, lt-ltb, false≢true, or_cases, or_left, or_right, or_parts, cases_eq}
use Rattle.lin_rows.specs.Rows.{LinearRow}
use Rattle.triple_rows.specs.Predicates.{Formula}
use Rattle.explained_proof.specs.RowExpressions.Worth.{row_holds}
use Rattle.explained_proof.specs.FactExpressions.Trees.{same_formula}
use Rattle.explained_proof.specs.FactExpressions.Facts.{Facts, has_cases, says, is_equal, says_row, is_row, implies}
use Rattle.explained_proof.specs.FactExpressions.Disjunctions.{is_covered_by, is_covered_from, is_left_out, marks_from, unmarked, kept, shared_by, less, either_of_all}
use Rattle.explained_proof.specs.FactExpressions.Worth.{formula_holds, facts_hold, alternatives_hold, EitherHolds}
use Rattle.explained_proof.proofs.FactExpressions.Truths.{both_true, and_true, same_truth, not_true, is_false, all_so, found, any_with, any_so, all_kept, all_passed, all_back, one_says, says_on, any_map}
use Rattle.explained_proof.proofs.FactExpressions.TreeWorth.{says_sound, says_trans, equal_sound, same_holds, formula_trans}

-- ---- what implies what

-- a predicate with cases that is there
abbrev same_as : Formula → Formula → Bool
same_as f g = same_formula g f

same_sound : (point : ℕ → ℤ) (f g : Formula) → same_as f g ≡ true → formula_holds point g ≡ true → formula_holds point f ≡ true
same_sound point f g h k = sym (same_holds point g f h) ∙ k

same_trans : (f g h : Formula) → same_as f g ≡ true → same_as g h ≡ true → same_as f h ≡ true
same_trans f g h a b = formula_trans h g f b a

-- facts that hold, part by part
record Hold (point : ℕ → ℤ) (c : Facts) : Type 0 where
  possible : c.never ≡ false
  rows : list_all (λ r. row_holds point r false) c.rows ≡ true
  cases : list_all (formula_holds point) c.cases ≡ true

hold_parts : (point : ℕ → ℤ) (c : Facts) → facts_hold point c ≡ true → Hold point c
hold_parts point c h =
    let a = both_true (not c.never) (list_all (λ r. row_holds point r false) c.rows && list_all (formula_holds point) c.cases) h in
    let b = both_true (list_all (λ r. row_holds point r false) c.rows) (list_all (formula_holds point) c.cases) a.1 in
    record { possible = by c.never a.0; rows = b.0; cases = b.1 }
  where
    by : (b : Bool) → not b ≡ true → b ≡ false
    by true e = absurd (false≢true e)
    by false e = refl

hold_whole : (point : ℕ → ℤ) (c : Facts) → Hold point c → facts_hold point c ≡ true
hold_whole point c h =
    and_true (not c.never) (list_all (λ r. row_holds point r false) c.rows && list_all (formula_holds point) c.cases) (ap not h.possible)
    (and_true (list_all (λ r. row_holds point r false) c.rows) (list_all (formula_holds point) c.cases) h.rows h.cases)

-- what an implication says of possible facts
record Implied (c d : Facts) : Type 0 where
  rows : list_all (says_row c.rows) d.rows ≡ true
  cases : list_all (has_cases c.cases) d.cases ≡ true
  possible : d.never ≡ false

implied_parts : (c d : Facts) → c.never ≡ false → implies c d ≡ true → Implied c d
implied_parts c d e h =
    let k : (list_all (says_row c.rows) d.rows && (list_all (has_cases c.cases) d.cases && not d.never)) ≡ true =
    sym (ap (λ b. b || (list_all (says_row c.rows) d.rows && (list_all (has_cases c.cases) d.cases && not d.never))) e) ∙ h in
    let a = both_true (list_all (says_row c.rows) d.rows) (list_all (has_cases c.cases) d.cases && not d.never) k in
    let b = both_true (list_all (has_cases c.cases) d.cases) (not d.never) a.1 in
    record { rows = a.0; cases = b.0; possible = by d.never b.1 }
  where
    by : (b : Bool) → not b ≡ true → b ≡ false
    by true f = absurd (false≢true f)
    by false f = refl

implied_whole : (c d : Facts) → Implied c d → implies c d ≡ true
implied_whole c d h =
    or_right c.never (list_all (says_row c.rows) d.rows && (list_all (has_cases c.cases) d.cases && not d.never))
    (and_true (list_all (says_row c.rows) d.rows) (list_all (has_cases c.cases) d.cases && not d.never) h.rows
    (and_true (list_all (has_cases c.cases) d.cases) (not d.never) h.cases (ap not h.possible)))

implies_sound : (point : ℕ → ℤ) (c d : Facts) → implies c d ≡ true → facts_hold point c ≡ true → facts_hold point d ≡ true
implies_sound point c d h k =
    let p = hold_parts point c k in
    let i = implied_parts c d p.possible h in
    hold_whole point d (record {
      possible = i.possible;
      rows = all_so (says_row c.rows) (λ r. row_holds point r false) d.rows i.rows (λ r e. one_says says (λ s. row_holds point s false) (says_sound point) c.rows r e p.rows);
      cases = all_so (has_cases c.cases) (formula_holds point) d.cases i.cases (λ f e. one_says same_as (formula_holds point) (same_sound point) c.cases f e p.cases);
    })

implies_trans : (c d e : Facts) → implies c d ≡ true → implies d e ≡ true → implies c e ≡ true
implies_trans c d e h k = by c.never refl
  where
    by : (b : Bool) → c.never ≡ b → implies c e ≡ true
    by true n = or_left c.never (list_all (says_row c.rows) e.rows && (list_all (has_cases c.cases) e.cases && not e.never)) n
    by false n =
        let i = implied_parts c d n h in
        let j = implied_parts d e i.possible k in
        implied_whole c e (record {
          rows = all_so (says_row d.rows) (says_row c.rows) e.rows j.rows (λ r m. says_on says says_trans c.rows d.rows r i.rows m);
          cases = all_so (has_cases d.cases) (has_cases c.cases) e.cases j.cases (λ f m. says_on same_as same_trans c.cases d.cases f i.cases m);
          possible = j.possible;
        })

-- ---- a greatest of finitely many

-- The facts of number b cover those of number a.
abbrev Covers : (ℕ → Facts) → ℕ → ℕ → Bool
Covers at b a = is_covered_by b (at b) a (at a)

record Covered (at : ℕ → Facts) (b a : ℕ) : Type 0 where
  apart : b ≡ a → ⊥
  possible : (at b).never ≡ false
  implied : implies (at a) (at b) ≡ true
  strict : (b < a) ⊎ (implies (at b) (at a) ≡ true → ⊥)

covered_parts : (at : ℕ → Facts) (b a : ℕ) → Covers at b a ≡ true → Covered at b a
covered_parts at b a h =
    let p = both_true (not (nat_eq b a)) (not (at b).never && (implies (at a) (at b) && (nat_lt b a || not (implies (at b) (at a))))) h in
    let q = both_true (not (at b).never) (implies (at a) (at b) && (nat_lt b a || not (implies (at b) (at a)))) p.1 in
    let r = both_true (implies (at a) (at b)) (nat_lt b a || not (implies (at b) (at a))) q.1 in
    record {
      apart = λ (e : b ≡ a). not_true (nat_eq b a) p.0 (eq-eqb b a e);
      possible = by (at b).never q.0;
      implied = r.0;
      strict = order (or_cases (nat_lt b a) (not (implies (at b) (at a))) r.1);
    }
  where
    by : (x : Bool) → not x ≡ true → x ≡ false
    by true e = absurd (false≢true e)
    by false e = refl

    order : (nat_lt b a ≡ true) ⊎ (not (implies (at b) (at a)) ≡ true) → (b < a) ⊎ (implies (at b) (at a) ≡ true → ⊥)
    order (inl e) = inl (ltb-true b a e)
    order (inr e) = inr (not_true (implies (at b) (at a)) e)

covered_whole : (at : ℕ → Facts) (b a : ℕ) → Covered at b a → Covers at b a ≡ true
covered_whole at b a c =
    and_true (not (nat_eq b a)) (not (at b).never && (implies (at a) (at b) && (nat_lt b a || not (implies (at b) (at a))))) (ap not (ne_eqb b a c.apart))
    (and_true (not (at b).never) (implies (at a) (at b) && (nat_lt b a || not (implies (at b) (at a)))) (ap not c.possible)
    (and_true (implies (at a) (at b)) (nat_lt b a || not (implies (at b) (at a))) c.implied (order c.strict)))
  where
    order : (b < a) ⊎ (implies (at b) (at a) ≡ true → ⊥) → (nat_lt b a || not (implies (at b) (at a))) ≡ true
    order (inl e) = or_left (nat_lt b a) (not (implies (at b) (at a))) (lt-ltb b a e)
    order (inr e) = or_right (nat_lt b a) (not (implies (at b) (at a))) (is_false (implies (at b) (at a)) e)

-- where facts imply each other the first of them covers
before : (at : ℕ → Facts) (b a : ℕ) → Covered at b a → implies (at b) (at a) ≡ true → b < a
before at b a c h = by c.strict
  where
    by : (b < a) ⊎ (implies (at b) (at a) ≡ true → ⊥) → b < a
    by (inl e) = e
    by (inr f) = absurd (f h)

covers_trans : (at : ℕ → Facts) (c b a : ℕ) → Covered at c b → Covered at b a → Covered at c a
covers_trans at c b a h k =
    let i : implies (at a) (at c) ≡ true = implies_trans (at a) (at b) (at c) k.implied h.implied in
    record {
      apart = λ (e : c ≡ a). apart_by e;
      possible = h.possible;
      implied = i;
      strict = strict_by (implies (at c) (at a)) refl;
    }
  where
    below : implies (at c) (at a) ≡ true → c < a
    below e =
        let x : c < b = before at c b h (implies_trans (at c) (at a) (at b) e k.implied) in
        let y : b < a = before at b a k (implies_trans (at b) (at c) (at a) h.implied e) in
        omega arith

    apart_by : c ≡ a → ⊥
    apart_by e =
        let f : implies (at b) (at a) ≡ true = subst (λ n. implies (at b) (at n) ≡ true) e h.implied in
        let y : b < a = before at b a k f in
        let g : implies (at c) (at b) ≡ true = subst (λ n. implies (at n) (at b) ≡ true) (sym e) k.implied in
        let x : c < b = before at c b h g in
        omega arith

    strict_by : (x : Bool) → implies (at c) (at a) ≡ x → (c < a) ⊎ (implies (at c) (at a) ≡ true → ⊥)
    strict_by true e = inl (below e)
    strict_by false e = inr (λ (f : implies (at c) (at a) ≡ true). false≢true (sym e ∙ f))

-- a number from which none of the first m covers, as good as n or above it
record Greatest (at : ℕ → Facts) (n m : ℕ) : Type 0 where
  place : ℕ
  above : (place ≡ n) ⊎ Covered at place n
  free : (k : ℕ) → k < m → Covers at k place ≡ false

greatest : (at : ℕ → Facts) (n m : ℕ) → Greatest at n m
greatest at n zero = record { place = n; above = inl refl; free = λ (k : ℕ) (l : k < 0). absurd (omega (arith, l)) }
greatest at n (suc m) = step (greatest at n m)
  where
    raise : (p : ℕ) → (p ≡ n) ⊎ Covered at p n → Covered at m p → Covered at m n
    raise p (inl e) c = subst (Covered at m) e c
    raise p (inr d) c = covers_trans at m p n c d

    lower : (p : ℕ) → Covered at m p → ((k : ℕ) → k < m → Covers at k p ≡ false) → (k : ℕ) (x : Bool) → Covers at k m ≡ x → k < suc m → x ≡ false
    lower p c f k false e l = refl
    lower p c f k true e l =
        let d = covered_parts at k m e in
        let q : k < m = (let a : k ≡ m → ⊥ = d.apart in omega (arith, l)) in
        absurd (false≢true (sym (f k q) ∙ covered_whole at k p (covers_trans at k m p d c)))

    widen : (p : ℕ) → Covers at m p ≡ false → ((k : ℕ) → k < m → Covers at k p ≡ false) → (k : ℕ) → k < suc m → ((k ≡ m) ⊎ (k ≡ m → ⊥)) → Covers at k p ≡ false
    widen p e f k l (inl d) = subst (λ j. Covers at j p ≡ false) (sym d) e
    widen p e f k l (inr d) = f k (omega (arith, l))

    step_by : (g : Greatest at n m) (x : Bool) → Covers at m g.place ≡ x → Greatest at n (suc m)
    step_by g true e =
        let c = covered_parts at m g.place e in
        record { place = m; above = inr (raise g.place g.above c); free = λ (k : ℕ) (l : k < suc m). lower g.place c g.free k (Covers at k m) refl l }
    step_by g false e = record { place = g.place; above = g.above; free = λ (k : ℕ) (l : k < suc m). widen g.place e g.free k l (cases_eq k m) }

    step : Greatest at n m → Greatest at n (suc m)
    step g = step_by g (Covers at m g.place) refl

-- ---- what stays

-- false, behind the last
abbrev none_left : Facts
none_left = record { rows = []; cases = []; never = true }

abbrev fact_at : List Facts → ℕ → Facts
fact_at cs n = get_or cs n none_left

-- none of the facts covers
free_from : (ds : List Facts) (j n : ℕ) (c : Facts) → ((k : ℕ) → k < length ds → is_covered_by (j + k) (fact_at ds k) n c ≡ false) → is_covered_from j ds n c ≡ false
free_from [] j n c f = refl
free_from (d ∷ ds) j n c f =
    ap (λ b. b || is_covered_from (suc j) ds n c) (subst (λ i. is_covered_by i d n c ≡ false) (let e : j + 0 ≡ j = omega arith in e) (f 0 (omega arith))) ∙
    free_from ds (suc j) n c (λ (k : ℕ) (l : k < length ds). subst (λ i. is_covered_by i (fact_at ds k) n c ≡ false) (let e : j + suc k ≡ suc j + k = omega arith in e) (f (suc k) (omega arith)))

-- facts of a list at a number that are not left out stay
stays : (all cs : List Facts) (j n : ℕ) (p : Facts → Bool) → n < length cs → is_left_out all (j + n) (fact_at cs n) ≡ false → p (fact_at cs n) ≡ true →
    list_any p (unmarked (marks_from all j cs) cs) ≡ true
stays all [] j n p l e h = absurd (omega (arith, l))
stays all (c ∷ cs) j zero p l e h =
    by (is_left_out all j c) (subst (λ i. is_left_out all i c ≡ false) (let d : j + 0 ≡ j = omega arith in d) e)
  where
    by : (b : Bool) → b ≡ false → list_any p (unmarked (b ∷ marks_from all (suc j) cs) (c ∷ cs)) ≡ true
    by true d = absurd (false≢true (sym d))
    by false d = or_left (p c) (list_any p (unmarked (marks_from all (suc j) cs) cs)) h
stays all (c ∷ cs) j (suc n) p l e h =
    by (is_left_out all j c) (stays all cs (suc j) n p (omega arith) (subst (λ i. is_left_out all i (fact_at cs n) ≡ false) (let d : j + suc n ≡ suc j + n = omega arith in d) e) h)
  where
    by : (b : Bool) → list_any p (unmarked (marks_from all (suc j) cs) cs) ≡ true → list_any p (unmarked (b ∷ marks_from all (suc j) cs) (c ∷ cs)) ≡ true
    by true d = d
    by false d = or_right (p c) (list_any p (unmarked (marks_from all (suc j) cs) cs)) d

-- what stays was there, and is not false
kept_any : (all cs : List Facts) (j : ℕ) (p : Facts → Bool) → list_any p (unmarked (marks_from all j cs) cs) ≡ true → list_any p cs ≡ true
kept_any all [] j p h = absurd (false≢true h)
kept_any all (c ∷ cs) j p h = by (is_left_out all j c) h (λ (d : list_any p (unmarked (marks_from all (suc j) cs) cs) ≡ true). kept_any all cs (suc j) p d)
  where
    first : (p c ≡ true) ⊎ (list_any p (unmarked (marks_from all (suc j) cs) cs) ≡ true) → (list_any p (unmarked (marks_from all (suc j) cs) cs) ≡ true → list_any p cs ≡ true) →
        list_any p (c ∷ cs) ≡ true
    first (inl d) behind = or_left (p c) (list_any p cs) d
    first (inr d) behind = or_right (p c) (list_any p cs) (behind d)

    by : (b : Bool) → list_any p (unmarked (b ∷ marks_from all (suc j) cs) (c ∷ cs)) ≡ true → (list_any p (unmarked (marks_from all (suc j) cs) cs) ≡ true → list_any p cs ≡ true) →
        list_any p (c ∷ cs) ≡ true
    by true d behind = or_right (p c) (list_any p cs) (behind d)
    by false d behind = first (or_cases (p c) (list_any p (unmarked (marks_from all (suc j) cs) cs)) d) behind

kept_possible : (all cs : List Facts) (j : ℕ) → list_all (λ c. not c.never) (unmarked (marks_from all j cs) cs) ≡ true
kept_possible all [] j = refl
kept_possible all (c ∷ cs) j = by (is_left_out all j c) refl (kept_possible all cs (suc j))
  where
    by : (b : Bool) → is_left_out all j c ≡ b → list_all (λ d. not d.never) (unmarked (marks_from all (suc j) cs) cs) ≡ true →
        list_all (λ d. not d.never) (unmarked (b ∷ marks_from all (suc j) cs) (c ∷ cs)) ≡ true
    by true e h = h
    by false e h =
        and_true (not c.never) (list_all (λ d. not d.never) (unmarked (marks_from all (suc j) cs) cs)) (ap not (or_parts c.never (is_covered_from 0 all j c) e).0) h

-- a number of a list at which a test passes
record Placed (p : Facts → Bool) (cs : List Facts) : Type 0 where
  place : ℕ
  within : place < length cs
  passes : p (fact_at cs place) ≡ true

placed : (p : Facts → Bool) (cs : List Facts) → list_any p cs ≡ true → Placed p cs
placed p [] h = absurd (false≢true h)
placed p (c ∷ cs) h = by (or_cases (p c) (list_any p cs) h) (λ (e : list_any p cs ≡ true). placed p cs e)
  where
    next : Placed p cs → Placed p (c ∷ cs)
    next w = let l = w.within in record { place = suc w.place; within = omega (arith, l); passes = w.passes }

    by : (p c ≡ true) ⊎ (list_any p cs ≡ true) → (list_any p cs ≡ true → Placed p cs) → Placed p (c ∷ cs)
    by (inl e) behind = record { place = 0; within = omega arith; passes = e }
    by (inr e) behind = next (behind e)

-- numbers of facts that are possible are those of the list
inside : (cs : List Facts) (n : ℕ) → (fact_at cs n).never ≡ false → n < length cs
inside [] n h = absurd (false≢true (sym h))
inside (c ∷ cs) zero h = omega arith
inside (c ∷ cs) (suc n) h = let l = inside cs n h in omega (arith, l)

-- where one of the facts holds, one of those that stay does
kept_holds : (point : ℕ → ℤ) (cs : List Facts) → list_any (facts_hold point) cs ≡ true → list_any (facts_hold point) (kept cs) ≡ true
kept_holds point cs h = from (placed (facts_hold point) cs h)
  where
    sound : (n p : ℕ) → (p ≡ n) ⊎ Covered (fact_at cs) p n → facts_hold point (fact_at cs n) ≡ true → facts_hold point (fact_at cs p) ≡ true
    sound n p (inl e) k = subst (λ i. facts_hold point (fact_at cs i) ≡ true) (sym e) k
    sound n p (inr d) k = implies_sound point (fact_at cs n) (fact_at cs p) d.implied k

    at_place : (n : ℕ) → facts_hold point (fact_at cs n) ≡ true → Greatest (fact_at cs) n (length cs) → list_any (facts_hold point) (kept cs) ≡ true
    at_place n k g =
        let w = sound n g.place g.above k in
        let possible = (hold_parts point (fact_at cs g.place) w).possible in
        let free = free_from cs 0 g.place (fact_at cs g.place)
        (λ (i : ℕ) (l : i < length cs). subst (λ m. is_covered_by m (fact_at cs i) g.place (fact_at cs g.place) ≡ false) (let e : i ≡ 0 + i = omega arith in e) (g.free i l)) in
        stays cs cs 0 g.place (facts_hold point) (inside cs g.place possible)
        (subst (λ m. is_left_out cs m (fact_at cs g.place) ≡ false) (let e : g.place ≡ 0 + g.place = omega arith in e)
        (ap (λ b. b || is_covered_from 0 cs g.place (fact_at cs g.place)) possible ∙ free))
        w

    from : Placed (facts_hold point) cs → list_any (facts_hold point) (kept cs) ≡ true
    from w = at_place w.place w.passes (greatest (fact_at cs) w.place (length cs))

-- ---- what is shared

module _ (point : ℕ → ℤ) where
  abbrev meets_row : LinearRow → Bool
  meets_row r = row_holds point r false

  -- what is shared holds where one of the facts does
  shared_holds : (cs : List Facts) → list_any (facts_hold point) cs ≡ true → facts_hold point (shared_by cs) ≡ true
  shared_holds [] h = absurd (false≢true h)
  shared_holds (c ∷ cs) h =
      hold_whole point (shared_by (c ∷ cs)) (record {
        possible = refl;
        rows = all_passed (λ r. list_all (λ d. is_row d.rows r) (c ∷ cs)) meets_row c.rows (λ r e. row_by r (found (facts_hold point) (λ d. is_row d.rows r) (c ∷ cs) h e));
        cases = all_passed (λ f. list_all (λ d. has_cases d.cases f) (c ∷ cs)) (formula_holds point) c.cases (λ f e. case_by f (found (facts_hold point) (λ d. has_cases d.cases f) (c ∷ cs) h e));
      })
    where
      row_by : (r : LinearRow) → ((d : Facts) × (facts_hold point d ≡ true) × (is_row d.rows r ≡ true)) → meets_row r ≡ true
      row_by r (d, k, e) = one_says is_equal meets_row (equal_sound point) d.rows r e (hold_parts point d k).rows

      case_by : (f : Formula) → ((d : Facts) × (facts_hold point d ≡ true) × (has_cases d.cases f ≡ true)) → formula_holds point f ≡ true
      case_by f (d, k, e) = one_says same_as (formula_holds point) (same_sound point) d.cases f e (hold_parts point d k).cases

  less_holds : (shared c : Facts) → facts_hold point c ≡ true → facts_hold point (less shared c) ≡ true
  less_holds shared c h =
      let k = hold_parts point c h in
      hold_whole point (less shared c) (record {
        possible = refl;
        rows = all_kept (λ r. not (is_row shared.rows r)) meets_row c.rows k.rows;
        cases = all_kept (λ f. not (has_cases shared.cases f)) (formula_holds point) c.cases k.cases;
      })

  denied_true : (b : Bool) → not b ≡ false → b ≡ true
  denied_true true e = refl
  denied_true false e = absurd (false≢true (sym e))

  possible_of : (c : Facts) → not c.never ≡ true → c.never ≡ false
  possible_of c h = by c.never h
    where
      by : (b : Bool) → not b ≡ true → b ≡ false
      by true e = absurd (false≢true e)
      by false e = refl

  -- with what is shared the rest is the whole
  whole_holds : (shared c : Facts) → facts_hold point shared ≡ true → facts_hold point (less shared c) ≡ true → not c.never ≡ true → facts_hold point c ≡ true
  whole_holds shared c h k n =
      let s = hold_parts point shared h in
      let l = hold_parts point (less shared c) k in
      hold_whole point c (record {
        possible = possible_of c n;
        rows = all_back (λ r. not (is_row shared.rows r)) meets_row c.rows l.rows (λ r e. one_says is_equal meets_row (equal_sound point) shared.rows r (denied_true (is_row shared.rows r) e) s.rows);
        cases = all_back (λ f. not (has_cases shared.cases f)) (formula_holds point) c.cases l.cases
            (λ f e. one_says same_as (formula_holds point) (same_sound point) shared.cases f (denied_true (has_cases shared.cases f) e) s.cases);
      })

  -- ---- the disjunction
  either_follows : (cs : List Facts) → list_any (facts_hold point) cs ≡ true → alternatives_hold point (either_of_all cs) ≡ true
  either_follows cs h =
      let k = kept_holds point cs h in
      and_true (facts_hold point (shared_by (kept cs))) (list_any (facts_hold point) (map (less (shared_by (kept cs))) (kept cs))) (shared_holds (kept cs) k)
      (any_map (facts_hold point) (less (shared_by (kept cs))) (kept cs) ∙
      any_so (facts_hold point) (λ c. facts_hold point (less (shared_by (kept cs)) c)) (kept cs) k (λ c e. less_holds (shared_by (kept cs)) c e))

  either_implies : (cs : List Facts) → alternatives_hold point (either_of_all cs) ≡ true → list_any (facts_hold point) cs ≡ true
  either_implies cs h =
      let a = both_true (facts_hold point (shared_by (kept cs))) (list_any (facts_hold point) (map (less (shared_by (kept cs))) (kept cs))) h in
      let b : list_any (λ c. facts_hold point (less (shared_by (kept cs)) c)) (kept cs) ≡ true = sym (any_map (facts_hold point) (less (shared_by (kept cs))) (kept cs)) ∙ a.1 in
      kept_any cs cs 0 (facts_hold point)
      (any_with (λ c. facts_hold point (less (shared_by (kept cs)) c)) (λ c. not c.never) (facts_hold point) (kept cs) b (kept_possible cs cs 0)
      (λ c e n. whole_holds (shared_by (kept cs)) c a.0 e n))

pub either_holds : EitherHolds
either_holds point cs =
    same_truth (alternatives_hold point (either_of_all cs)) (list_any (facts_hold point) cs) (either_implies point cs) (either_follows point cs)
