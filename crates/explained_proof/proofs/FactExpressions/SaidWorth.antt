-- What facts and disjunctions of them say: as conclusions nothing that fails where they hold, and as premises nothing that holds where they fail.
use Rattle.std.proofs.Common.{◌≡◌, ◌∙◌, ◌⊎◌, inl, inr, ℕ, zero, suc, ◌<◌, ◌≤◌, ℤ, Bool, true, false, not, List, [], ◌∷◌, ◌++◌, map, Option, None, Some, refl, sym, ap, arith}
use Rattle.std.specs.Prelude.{◌&&◌, ◌||◌, max, nat_lt, if◌then◌else◌}
use Rattle.std.specs.List.{list_any, list_all, flat_map, AllByRecursion}
use Rattle.std.proofs.lemmas.List.Folds.{list_all-append, list_all-map, list_any-append}
use Rattle.std.proofs.lemmas.Bool.{false≢true, ltb-true, lt-ltb, or_cases, or_left, or_right}
use Rattle.lin_rows.specs.Rows.{LinearRow}
use Rattle.triple_rows.specs.Predicates.{Formula, Formulas, truth, atom, and_of, or_of, no_formula, one_more, nesting, deepest}
use Rattle.boogie_tree.specs.Tree.{Expression}
use Rattle.explained_proof.specs.BuiltExpressions.Members.{Conjuncts, with_members, one_of}
use Rattle.explained_proof.specs.BuiltExpressions.Laws.{all_hold}
use Rattle.explained_proof.proofs.BuiltExpressions.TruthLaws.{two_hold, one_holds}
use Rattle.explained_proof.specs.RowExpressions.Scopes.{ClauseScope}
use Rattle.explained_proof.specs.RowExpressions.Options.{passes}
use Rattle.explained_proof.specs.RowExpressions.Worth.{row_holds}
use Rattle.explained_proof.specs.FactExpressions.Facts.{Facts, no_facts, has_cases, gathered, all_gathered, facts_from}
use Rattle.explained_proof.specs.FactExpressions.Disjunctions.{Alternatives, kept, unmarked, marks_from, is_left_out, shared_by, less, either_of_all}
use Rattle.explained_proof.specs.FactExpressions.EntryRows.{cover_all, told_rows}
use Rattle.explained_proof.specs.FactExpressions.Conclusions.{only_row, row_alone, covers_rest, first_is_covered, are_all, formula_list, part_facts, never_or, all_of, facts_with, unless_all, only_cases, cases_alone, parts_or_whole, rest_parts, alternatives_with, cases_said, facts_said}
use Rattle.explained_proof.specs.FactExpressions.Worth.{formula_holds, some_holds, facts_hold, alternatives_hold, IsAt, begins_with_or, AreCases, AreShallow, AreAlternatives, FactsFollow, FactsAreImplied, AlternativesFollow, AlternativesAreImplied}
use Rattle.explained_proof.proofs.FactExpressions.Truths.{both_true, and_true, all_with, any_with, all_kept, any_map}
use Rattle.explained_proof.proofs.FactExpressions.FactWorth.{gathered_alone, gathered_cases}
use Rattle.explained_proof.proofs.FactExpressions.OrderWorth.{either_holds}
use Rattle.explained_proof.proofs.FactExpressions.RowsWorth.{one_covers, told_follows, told_implied}

-- ---- rests of which one holds anywhere

only_row_is : (b : Bool) (fs : List Formula) (rs : List LinearRow) (r : LinearRow) → only_row b fs rs ≡ Some r → (b ≡ false) × (fs ≡ []) × (rs ≡ r ∷ [])
only_row_is false [] [] r h = let no : ⊥ = cc in absurd no
only_row_is false [] (q ∷ []) r h = (refl, refl, ap (λ x. x ∷ []) (let e : q ≡ r = cc in e))
only_row_is false [] (q ∷ (t ∷ ts)) r h = let no : ⊥ = cc in absurd no
only_row_is false (f ∷ fs) rs r h = let no : ⊥ = cc in absurd no
only_row_is true fs rs r h = let no : ⊥ = cc in absurd no

only_cases_is : (b : Bool) (rs : List LinearRow) (fs : List Formula) (f : Formula) → only_cases b rs fs ≡ Some f → (b ≡ false) × (rs ≡ []) × (fs ≡ f ∷ [])
only_cases_is false [] [] f h = let no : ⊥ = cc in absurd no
only_cases_is false [] (g ∷ []) f h = (refl, refl, ap (λ x. x ∷ []) (let e : g ≡ f = cc in e))
only_cases_is false [] (g ∷ (t ∷ ts)) f h = let no : ⊥ = cc in absurd no
only_cases_is false (r ∷ rs) fs f h = let no : ⊥ = cc in absurd no
only_cases_is true rs fs f h = let no : ⊥ = cc in absurd no

module _ (point : ℕ → ℤ) where
  abbrev meets_row : LinearRow → Bool
  meets_row r = row_holds point r false

  whole_row : (c : Facts) (r : LinearRow) → row_alone c ≡ Some r → meets_row r ≡ true → facts_hold point c ≡ true
  whole_row c r e h =
      let a = only_row_is c.never c.cases c.rows r e in
      and_true (not c.never) (list_all meets_row c.rows && list_all (formula_holds point) c.cases) (ap not a.0)
      (and_true (list_all meets_row c.rows) (list_all (formula_holds point) c.cases) (ap (list_all meets_row) a.2 ∙ and_true (meets_row r) true h refl) (ap (list_all (formula_holds point)) a.1))

  -- what a passing row is
  passing_row : (test : LinearRow → Bool) (o : Option LinearRow) → passes test o ≡ true → (r : LinearRow) × (o ≡ Some r) × (test r ≡ true)
  passing_row test None h = absurd (false≢true h)
  passing_row test (Some r) h = (r, refl, h)

  covering_rest : (cs : List Facts) (r : LinearRow) → covers_rest cs r ≡ true → (meets_row r ≡ true) ⊎ (list_any (facts_hold point) cs ≡ true)
  covering_rest [] r h = absurd (false≢true h)
  covering_rest (c ∷ cs) r h = by (or_cases (passes (cover_all r) (row_alone c)) (covers_rest cs r) h) (λ (k : covers_rest cs r ≡ true). covering_rest cs r k)
    where
      next : (meets_row r ≡ true) ⊎ (list_any (facts_hold point) cs ≡ true) → (meets_row r ≡ true) ⊎ (list_any (facts_hold point) (c ∷ cs) ≡ true)
      next (inl k) = inl k
      next (inr k) = inr (or_right (facts_hold point c) (list_any (facts_hold point) cs) k)

      here : (q : LinearRow) → row_alone c ≡ Some q → (meets_row r ≡ true) ⊎ (meets_row q ≡ true) → (meets_row r ≡ true) ⊎ (list_any (facts_hold point) (c ∷ cs) ≡ true)
      here q e (inl k) = inl k
      here q e (inr k) = inr (or_left (facts_hold point c) (list_any (facts_hold point) cs) (whole_row c q e k))

      by : (passes (cover_all r) (row_alone c) ≡ true) ⊎ (covers_rest cs r ≡ true) → (covers_rest cs r ≡ true → (meets_row r ≡ true) ⊎ (list_any (facts_hold point) cs ≡ true)) →
          (meets_row r ≡ true) ⊎ (list_any (facts_hold point) (c ∷ cs) ≡ true)
      by (inl k) behind = let w = passing_row (cover_all r) (row_alone c) k in here w.0 w.1 (one_covers point r w.0 w.2)
      by (inr k) behind = next (behind k)

  first_covered : (cs : List Facts) → first_is_covered cs ≡ true → list_any (facts_hold point) cs ≡ true
  first_covered [] h = absurd (false≢true h)
  first_covered (c ∷ cs) h =
      let w = passing_row (covers_rest (c ∷ cs)) (row_alone c) h in
      by w.0 w.1 (covering_rest (c ∷ cs) w.0 w.2)
    where
      by : (r : LinearRow) → row_alone c ≡ Some r → (meets_row r ≡ true) ⊎ (list_any (facts_hold point) (c ∷ cs) ≡ true) → list_any (facts_hold point) (c ∷ cs) ≡ true
      by r e (inl k) = or_left (facts_hold point c) (list_any (facts_hold point) cs) (whole_row c r e k)
      by r e (inr k) = k

  all_covered : (cs : List Facts) → are_all cs ≡ true → list_any (facts_hold point) cs ≡ true
  all_covered [] h = absurd (false≢true h)
  all_covered (c ∷ cs) h = by (or_cases (first_is_covered (c ∷ cs)) (are_all cs) h) (λ (k : are_all cs ≡ true). all_covered cs k)
    where
      by : (first_is_covered (c ∷ cs) ≡ true) ⊎ (are_all cs ≡ true) → (are_all cs ≡ true → list_any (facts_hold point) cs ≡ true) → list_any (facts_hold point) (c ∷ cs) ≡ true
      by (inl k) behind = first_covered (c ∷ cs) k
      by (inr k) behind = or_right (facts_hold point c) (list_any (facts_hold point) cs) (behind k)

  -- ---- parts of predicates with cases

  some_of : (fs : Formulas) → list_any (facts_hold point) (map (λ g. gathered g no_facts) (formula_list fs)) ≡ some_holds point fs
  some_of no_formula = refl
  some_of (one_more f fs) = ap (λ b. b || list_any (facts_hold point) (map (λ g. gathered g no_facts) (formula_list fs))) (gathered_alone point f) ∙ ap (λ b. formula_holds point f || b) (some_of fs)

  -- a predicate with cases holds where one of its parts does
  parts_follow : (f : Formula) → begins_with_or f ≡ true → formula_holds point f ≡ true → list_any (facts_hold point) (part_facts f) ≡ true
  parts_follow (truth b) e h = absurd (false≢true e)
  parts_follow (atom r) e h = absurd (false≢true e)
  parts_follow (and_of fs) e h = absurd (false≢true e)
  parts_follow (or_of fs) e h = some_of fs ∙ h

  parts_imply : (f : Formula) → list_any (facts_hold point) (part_facts f) ≡ true → formula_holds point f ≡ true
  parts_imply (truth b) h = absurd (false≢true h)
  parts_imply (atom r) h = absurd (false≢true h)
  parts_imply (and_of fs) h = absurd (false≢true h)
  parts_imply (or_of fs) h = sym (some_of fs) ∙ h

  or_end : (a : Bool) → (a || false) ≡ true → a ≡ true
  or_end true h = refl
  or_end false h = h

  rest_follows : (c : Facts) → AreCases c → facts_hold point c ≡ true → list_any (facts_hold point) (rest_parts c) ≡ true
  rest_follows c cases h = by (cases_alone c) refl
    where
      by : (o : Option Formula) → cases_alone c ≡ o → list_any (facts_hold point) (parts_or_whole c o) ≡ true
      by None e = or_left (facts_hold point c) false h
      by (Some f) e =
          let a = only_cases_is c.never c.rows c.cases f e in
          let k = (both_true (list_all meets_row c.rows) (list_all (formula_holds point) c.cases) (both_true (not c.never) (list_all meets_row c.rows && list_all (formula_holds point) c.cases) h).1).1 in
          let here : formula_holds point f ≡ true = (both_true (formula_holds point f) true (sym (ap (list_all (formula_holds point)) a.2) ∙ k)).0 in
          let begins : begins_with_or f ≡ true = (both_true (begins_with_or f) true (sym (ap (list_all begins_with_or) a.2) ∙ cases)).0 in
          parts_follow f begins here

  rest_implies : (c : Facts) → list_any (facts_hold point) (rest_parts c) ≡ true → facts_hold point c ≡ true
  rest_implies c h = by (cases_alone c) refl h
    where
      by : (o : Option Formula) → cases_alone c ≡ o → list_any (facts_hold point) (parts_or_whole c o) ≡ true → facts_hold point c ≡ true
      by None e k = or_end (facts_hold point c) k
      by (Some f) e k =
          let a = only_cases_is c.never c.rows c.cases f e in
          and_true (not c.never) (list_all meets_row c.rows && list_all (formula_holds point) c.cases) (ap not a.0)
          (and_true (list_all meets_row c.rows) (list_all (formula_holds point) c.cases) (ap (list_all meets_row) a.1)
          (ap (list_all (formula_holds point)) a.2 ∙ and_true (formula_holds point f) true (parts_imply f k) refl))

  rests_follow : (cs : List Facts) → AllByRecursion AreCases cs → list_any (facts_hold point) cs ≡ true → list_any (facts_hold point) (flat_map rest_parts cs) ≡ true
  rests_follow [] a h = absurd (false≢true h)
  rests_follow (c ∷ cs) a h =
      list_any-append (facts_hold point) (rest_parts c) (flat_map rest_parts cs) ∙
      by (or_cases (facts_hold point c) (list_any (facts_hold point) cs) h) (rest_follows c a.0) (rests_follow cs a.1)
    where
      by : (facts_hold point c ≡ true) ⊎ (list_any (facts_hold point) cs ≡ true) → (facts_hold point c ≡ true → list_any (facts_hold point) (rest_parts c) ≡ true) →
          (list_any (facts_hold point) cs ≡ true → list_any (facts_hold point) (flat_map rest_parts cs) ≡ true) →
          (list_any (facts_hold point) (rest_parts c) || list_any (facts_hold point) (flat_map rest_parts cs)) ≡ true
      by (inl k) here behind = or_left (list_any (facts_hold point) (rest_parts c)) (list_any (facts_hold point) (flat_map rest_parts cs)) (here k)
      by (inr k) here behind = or_right (list_any (facts_hold point) (rest_parts c)) (list_any (facts_hold point) (flat_map rest_parts cs)) (behind k)

  rests_imply : (cs : List Facts) → list_any (facts_hold point) (flat_map rest_parts cs) ≡ true → list_any (facts_hold point) cs ≡ true
  rests_imply [] h = absurd (false≢true h)
  rests_imply (c ∷ cs) h =
      by (or_cases (list_any (facts_hold point) (rest_parts c)) (list_any (facts_hold point) (flat_map rest_parts cs)) (sym (list_any-append (facts_hold point) (rest_parts c) (flat_map rest_parts cs)) ∙ h))
      (rest_implies c) (rests_imply cs)
    where
      by : (list_any (facts_hold point) (rest_parts c) ≡ true) ⊎ (list_any (facts_hold point) (flat_map rest_parts cs) ≡ true) →
          (list_any (facts_hold point) (rest_parts c) ≡ true → facts_hold point c ≡ true) → (list_any (facts_hold point) (flat_map rest_parts cs) ≡ true → list_any (facts_hold point) cs ≡ true) →
          list_any (facts_hold point) (c ∷ cs) ≡ true
      by (inl k) here behind = or_left (facts_hold point c) (list_any (facts_hold point) cs) (here k)
      by (inr k) here behind = or_right (facts_hold point c) (list_any (facts_hold point) cs) (behind k)

-- ---- what is kept of facts keeps what is so of their cases

-- each predicate with cases of the facts passes
abbrev pub HaveCases : (Formula → Bool) → Facts → Type 0
HaveCases test c = list_all test c.cases ≡ true

abbrev pub cases_pass : (Formula → Bool) → Facts → Bool
cases_pass test c = list_all test c.cases

kept_cases : (test : Formula → Bool) (all cs : List Facts) (j : ℕ) → list_all (cases_pass test) cs ≡ true → list_all (cases_pass test) (unmarked (marks_from all j cs) cs) ≡ true
kept_cases test all [] j h = refl
kept_cases test all (c ∷ cs) j h =
    let a = both_true (cases_pass test c) (list_all (cases_pass test) cs) h in
    by (is_left_out all j c) a.0 (kept_cases test all cs (suc j) a.1)
  where
    by : (b : Bool) → cases_pass test c ≡ true → list_all (cases_pass test) (unmarked (marks_from all (suc j) cs) cs) ≡ true →
        list_all (cases_pass test) (unmarked (b ∷ marks_from all (suc j) cs) (c ∷ cs)) ≡ true
    by true h k = k
    by false h k = and_true (cases_pass test c) (list_all (cases_pass test) (unmarked (marks_from all (suc j) cs) cs)) h k

shared_cases : (test : Formula → Bool) (cs : List Facts) → list_all (cases_pass test) cs ≡ true → HaveCases test (shared_by cs)
shared_cases test [] h = refl
shared_cases test (c ∷ cs) h =
    all_kept (λ f. list_all (λ d. has_cases d.cases f) (c ∷ cs)) test c.cases (both_true (cases_pass test c) (list_all (cases_pass test) cs) h).0

rests_have : (test : Formula → Bool) (shared : Facts) (cs : List Facts) → list_all (cases_pass test) cs ≡ true → AllByRecursion (HaveCases test) (map (less shared) cs)
rests_have test shared [] h = tt
rests_have test shared (c ∷ cs) h =
    let a = both_true (cases_pass test c) (list_all (cases_pass test) cs) h in
    (all_kept (λ f. not (has_cases shared.cases f)) test c.cases a.0, rests_have test shared cs a.1)

-- of a disjunction the cases are those of the facts
pub either_cases : (test : Formula → Bool) (cs : List Facts) → list_all (cases_pass test) cs ≡ true → AreAlternatives (HaveCases test) (either_of_all cs)
either_cases test cs h =
    let k = kept_cases test cs cs 0 h in
    record { shared = shared_cases test (kept cs) k; rests = rests_have test (shared_by (kept cs)) (kept cs) k }

-- where the parts of a passing predicate have passing ones alone
module _ (test : Formula → Bool) (parts : (f : Formula) → test f ≡ true → list_all (cases_pass test) (part_facts f) ≡ true) where
  rest_cases : (c : Facts) → cases_pass test c ≡ true → list_all (cases_pass test) (rest_parts c) ≡ true
  rest_cases c h = by (cases_alone c) refl
    where
      by : (o : Option Formula) → cases_alone c ≡ o → list_all (cases_pass test) (parts_or_whole c o) ≡ true
      by None e = and_true (cases_pass test c) true h refl
      by (Some f) e =
          let a = only_cases_is c.never c.rows c.cases f e in
          parts f (both_true (test f) true (sym (ap (list_all test) a.2) ∙ h)).0

  rests_cases : (cs : List Facts) → AllByRecursion (HaveCases test) cs → list_all (cases_pass test) (flat_map rest_parts cs) ≡ true
  rests_cases [] h = refl
  rests_cases (c ∷ cs) h =
      list_all-append (cases_pass test) (rest_parts c) (flat_map rest_parts cs) ∙
      and_true (list_all (cases_pass test) (rest_parts c)) (list_all (cases_pass test) (flat_map rest_parts cs)) (rest_cases c h.0) (rests_cases cs h.1)

-- ---- predicates that begin with `or`

parts_begin : (f : Formula) → list_all (cases_pass begins_with_or) (part_facts f) ≡ true
parts_begin (truth b) = refl
parts_begin (atom r) = refl
parts_begin (and_of fs) = refl
parts_begin (or_of fs) = by fs
  where
    by : (fs : Formulas) → list_all (cases_pass begins_with_or) (map (λ g. gathered g no_facts) (formula_list fs)) ≡ true
    by no_formula = refl
    by (one_more f fs) =
        and_true (cases_pass begins_with_or (gathered f no_facts)) (list_all (cases_pass begins_with_or) (map (λ g. gathered g no_facts) (formula_list fs))) (gathered_cases f no_facts refl) (by fs)

-- ---- predicates that are not nested deep

abbrev pub is_above : ℕ → Formula → Bool
is_above n f = nat_lt (nesting f) n

cases_deep : (n : ℕ) (b : Bool) (f : Formula) (fs : List Formula) → nesting f < n → list_all (is_above n) fs ≡ true → list_all (is_above n) (if b then fs else fs ++ f ∷ []) ≡ true
cases_deep n true f fs e h = h
cases_deep n false f fs e h =
    list_all-append (is_above n) fs (f ∷ []) ∙ and_true (list_all (is_above n) fs) (is_above n f && true) h (and_true (is_above n f) true (lt-ltb (nesting f) n e) refl)

less_deep : (a b n : ℕ) → max a b < n → (a < n) × (b < n)
less_deep a b n h = (omega (arith, h), omega (arith, h))

mutual
  gathered_deep : (n : ℕ) (f : Formula) (c : Facts) → nesting f < n → list_all (is_above n) c.cases ≡ true → list_all (is_above n) (gathered f c).cases ≡ true
  gathered_deep n (truth true) c l h = h
  gathered_deep n (truth false) c l h = h
  gathered_deep n (atom r) c l h = h
  gathered_deep n (and_of fs) c l h = all_gathered_deep n fs c (omega (arith, l)) h
  gathered_deep n (or_of fs) c l h = cases_deep n (has_cases c.cases (or_of fs)) (or_of fs) c.cases l h

  all_gathered_deep : (n : ℕ) (fs : Formulas) (c : Facts) → deepest fs < n → list_all (is_above n) c.cases ≡ true → list_all (is_above n) (all_gathered fs c).cases ≡ true
  all_gathered_deep n no_formula c l h = h
  all_gathered_deep n (one_more f fs) c l h =
      let a = less_deep (nesting f) (deepest fs) n l in
      all_gathered_deep n fs (gathered f c) a.1 (gathered_deep n f c a.0 h)

pub facts_from_deep : (n : ℕ) (fs : List Formula) (c : Facts) → list_all (is_above n) fs ≡ true → list_all (is_above n) c.cases ≡ true → list_all (is_above n) (facts_from fs c).cases ≡ true
facts_from_deep n [] c l h = h
facts_from_deep n (f ∷ fs) c l h =
    let a = both_true (is_above n f) (list_all (is_above n) fs) l in
    facts_from_deep n fs (gathered f c) a.1 (gathered_deep n f c (ltb-true (nesting f) n a.0) h)

each_deep : (n : ℕ) (fs : Formulas) → deepest fs < n → list_all (cases_pass (is_above n)) (map (λ g. gathered g no_facts) (formula_list fs)) ≡ true
each_deep n no_formula l = refl
each_deep n (one_more f fs) l =
    let a = less_deep (nesting f) (deepest fs) n l in
    and_true (cases_pass (is_above n) (gathered f no_facts)) (list_all (cases_pass (is_above n)) (map (λ g. gathered g no_facts) (formula_list fs)))
    (gathered_deep n f no_facts a.0 refl) (each_deep n fs a.1)

-- the cases of its parts are nested less deep
parts_deep : (n : ℕ) (f : Formula) → nesting f ≤ n → list_all (cases_pass (is_above n)) (part_facts f) ≡ true
parts_deep n (truth b) l = refl
parts_deep n (atom r) l = refl
parts_deep n (and_of fs) l = refl
parts_deep n (or_of fs) l = each_deep n fs (omega (arith, l))

parts_above : (n : ℕ) (f : Formula) → is_above n f ≡ true → list_all (cases_pass (is_above n)) (part_facts f) ≡ true
parts_above n f h = let l = ltb-true (nesting f) n h in parts_deep n f (omega (arith, l))

-- ---- what is said

all_of_holds : (holds : Expression → Bool) (ms : List Conjuncts) → all_hold holds (all_of ms) ≡ list_all (all_hold holds) ms
all_of_holds holds [] = refl
all_of_holds holds (m ∷ ms) = two_hold holds m (all_of ms) ∙ ap (λ b. all_hold holds m && b) (all_of_holds holds ms)

never_holds : (holds : Expression → Bool) (b : Bool) (m : Conjuncts) → all_hold holds (never_or b m) ≡ (not b && all_hold holds m)
never_holds holds true m = refl
never_holds holds false m = refl

unless_holds : (holds : Expression → Bool) (b : Bool) (m : Conjuncts) → all_hold holds (unless_all b m) ≡ (b || all_hold holds m)
unless_holds holds true m = refl
unless_holds holds false m = refl

module _ (worth : Expression → ℤ) (holds : Expression → Bool) (s : ClauseScope) (point : ℕ → ℤ) (is_at : IsAt worth holds s point) where
  facts_value : (said : Formula → Conjuncts) (c : Facts) →
      all_hold holds (facts_with said s c) ≡ (not c.never && (all_hold holds (told_rows s c.rows) && list_all (λ f. all_hold holds (said f)) c.cases))
  facts_value said c =
      never_holds holds c.never (with_members (told_rows s c.rows) (all_of (map said c.cases))) ∙
      ap (λ b. not c.never && b) (two_hold holds (told_rows s c.rows) (all_of (map said c.cases)) ∙
      ap (λ b. all_hold holds (told_rows s c.rows) && b) (all_of_holds holds (map said c.cases) ∙ list_all-map (all_hold holds) said c.cases))

  alternatives_value : (said : Formula → Conjuncts) (d : Alternatives) →
      all_hold holds (alternatives_with said s d) ≡
      (all_hold holds (facts_with said s d.shared) && (are_all d.rests || list_any (λ c. all_hold holds (facts_with said s c)) (flat_map rest_parts d.rests)))
  alternatives_value said d =
      two_hold holds (facts_with said s d.shared) (unless_all (are_all d.rests) (one_of (map (facts_with said s) (flat_map rest_parts d.rests)))) ∙
      ap (λ b. all_hold holds (facts_with said s d.shared) && b)
      (unless_holds holds (are_all d.rests) (one_of (map (facts_with said s) (flat_map rest_parts d.rests))) ∙
      ap (λ b. are_all d.rests || b)
      (one_holds holds is_at.reading.truths (map (facts_with said s) (flat_map rest_parts d.rests)) ∙ any_map (all_hold holds) (facts_with said s) (flat_map rest_parts d.rests)))

  -- ---- conclusions
  module _ (premise : s.premise ≡ false) where
    facts_follow : (said : Formula → Conjuncts) → ((f : Formula) → begins_with_or f ≡ true → formula_holds point f ≡ true → all_hold holds (said f) ≡ true) →
        (c : Facts) → cases_pass begins_with_or c ≡ true → facts_hold point c ≡ true → all_hold holds (facts_with said s c) ≡ true
    facts_follow said sound c cases h =
        let a = both_true (not c.never) (list_all (λ r. row_holds point r false) c.rows && list_all (formula_holds point) c.cases) h in
        let b = both_true (list_all (λ r. row_holds point r false) c.rows) (list_all (formula_holds point) c.cases) a.1 in
        facts_value said c ∙
        and_true (not c.never) (all_hold holds (told_rows s c.rows) && list_all (λ f. all_hold holds (said f)) c.cases) a.0
        (and_true (all_hold holds (told_rows s c.rows)) (list_all (λ f. all_hold holds (said f)) c.cases) (told_follows point worth holds s is_at premise c.rows b.0)
        (all_with begins_with_or (formula_holds point) (λ f. all_hold holds (said f)) c.cases cases b.1 sound))

    alternatives_follow : (said : Formula → Conjuncts) → ((f : Formula) → begins_with_or f ≡ true → formula_holds point f ≡ true → all_hold holds (said f) ≡ true) →
        (d : Alternatives) → AreAlternatives (HaveCases begins_with_or) d → alternatives_hold point d ≡ true → all_hold holds (alternatives_with said s d) ≡ true
    alternatives_follow said sound d cases h =
        let a = both_true (facts_hold point d.shared) (list_any (facts_hold point) d.rests) h in
        alternatives_value said d ∙
        and_true (all_hold holds (facts_with said s d.shared)) (are_all d.rests || list_any (λ c. all_hold holds (facts_with said s c)) (flat_map rest_parts d.rests))
        (facts_follow said sound d.shared cases.shared a.0)
        (or_right (are_all d.rests) (list_any (λ c. all_hold holds (facts_with said s c)) (flat_map rest_parts d.rests))
        (any_with (facts_hold point) (cases_pass begins_with_or) (λ c. all_hold holds (facts_with said s c)) (flat_map rest_parts d.rests) (rests_follow point d.rests cases.rests a.1)
        (rests_cases begins_with_or (λ f e. parts_begin f) d.rests cases.rests) (λ c k e. facts_follow said sound c e k)))

    pub cases_follow : (n : ℕ) (f : Formula) → begins_with_or f ≡ true → formula_holds point f ≡ true → all_hold holds (cases_said n s f) ≡ true
    unfolding cases_said
    cases_follow zero f e h = refl
    cases_follow (suc n) f e h =
        alternatives_follow (cases_said n s) (cases_follow n) (either_of_all (part_facts f)) (either_cases begins_with_or (part_facts f) (parts_begin f))
        (either_holds point (part_facts f) ∙ parts_follow point f e h)

  -- ---- premises
  module _ (premise : s.premise ≡ true) where
    facts_implied : (said : Formula → Conjuncts) (test : Formula → Bool) → ((f : Formula) → test f ≡ true → all_hold holds (said f) ≡ true → formula_holds point f ≡ true) →
        (c : Facts) → cases_pass test c ≡ true → all_hold holds (facts_with said s c) ≡ true → facts_hold point c ≡ true
    facts_implied said test sound c cases h =
        let a = both_true (not c.never) (all_hold holds (told_rows s c.rows) && list_all (λ f. all_hold holds (said f)) c.cases) (sym (facts_value said c) ∙ h) in
        let b = both_true (all_hold holds (told_rows s c.rows)) (list_all (λ f. all_hold holds (said f)) c.cases) a.1 in
        and_true (not c.never) (list_all (λ r. row_holds point r false) c.rows && list_all (formula_holds point) c.cases) a.0
        (and_true (list_all (λ r. row_holds point r false) c.rows) (list_all (formula_holds point) c.cases) (told_implied point worth holds s is_at premise c.rows b.0)
        (all_with test (λ f. all_hold holds (said f)) (formula_holds point) c.cases cases b.1 sound))

    alternatives_implied : (said : Formula → Conjuncts) (test : Formula → Bool) → ((f : Formula) → test f ≡ true → list_all (cases_pass test) (part_facts f) ≡ true) →
        ((f : Formula) → test f ≡ true → all_hold holds (said f) ≡ true → formula_holds point f ≡ true) →
        (d : Alternatives) → AreAlternatives (HaveCases test) d → all_hold holds (alternatives_with said s d) ≡ true → alternatives_hold point d ≡ true
    alternatives_implied said test parts sound d cases h =
        let a = both_true (all_hold holds (facts_with said s d.shared)) (are_all d.rests || list_any (λ c. all_hold holds (facts_with said s c)) (flat_map rest_parts d.rests))
        (sym (alternatives_value said d) ∙ h) in
        and_true (facts_hold point d.shared) (list_any (facts_hold point) d.rests) (facts_implied said test sound d.shared cases.shared a.0)
        (by (or_cases (are_all d.rests) (list_any (λ c. all_hold holds (facts_with said s c)) (flat_map rest_parts d.rests)) a.1))
      where
        by : (are_all d.rests ≡ true) ⊎ (list_any (λ c. all_hold holds (facts_with said s c)) (flat_map rest_parts d.rests) ≡ true) → list_any (facts_hold point) d.rests ≡ true
        by (inl k) = all_covered point d.rests k
        by (inr k) =
            rests_imply point d.rests
            (any_with (λ c. all_hold holds (facts_with said s c)) (cases_pass test) (facts_hold point) (flat_map rest_parts d.rests) k (rests_cases test parts d.rests cases.rests)
            (λ c j e. facts_implied said test sound c e j))

    deeper_implied : (n : ℕ) → ((g : Formula) → is_above n g ≡ true → all_hold holds (cases_said n s g) ≡ true → formula_holds point g ≡ true) →
        (f : Formula) → nesting f ≤ n → all_hold holds (cases_said (suc n) s f) ≡ true → formula_holds point f ≡ true
    unfolding cases_said
    deeper_implied n deeper f l h =
        parts_imply point f (sym (either_holds point (part_facts f)) ∙
        alternatives_implied (cases_said n s) (is_above n) (parts_above n) deeper (either_of_all (part_facts f)) (either_cases (is_above n) (part_facts f) (parts_deep n f l)) h)

    not_below : (n : ℕ) → nat_lt n 0 ≡ true → ⊥
    not_below n h = let l = ltb-true n 0 h in omega (arith, l)

    within : (n m : ℕ) → nat_lt n (suc m) ≡ true → n ≤ m
    within n m h = let l = ltb-true n (suc m) h in omega (arith, l)

    -- the predicate is nested n deep at most
    pub cases_implied : (n : ℕ) (f : Formula) → nesting f ≤ n → all_hold holds (cases_said (suc n) s f) ≡ true → formula_holds point f ≡ true
    cases_implied zero f l h = deeper_implied zero (λ (g : Formula) (e : is_above zero g ≡ true) (k : all_hold holds (cases_said zero s g) ≡ true). absurd (not_below (nesting g) e)) f l h
    cases_implied (suc m) f l h =
        deeper_implied (suc m) (λ (g : Formula) (e : is_above (suc m) g ≡ true) (k : all_hold holds (cases_said (suc m) s g) ≡ true). cases_implied m g (within (nesting g) m e) k) f l h

    pub limit_implied : (f : Formula) → is_above 201 f ≡ true → all_hold holds (cases_said 201 s f) ≡ true → formula_holds point f ≡ true
    limit_implied f e h = cases_implied 200 f (within (nesting f) 200 e) h

shallow_pass : (fs : List Formula) → AllByRecursion (λ f. nesting f ≤ 200) fs → list_all (is_above 201) fs ≡ true
shallow_pass [] h = refl
shallow_pass (f ∷ fs) h = let l = h.0 in and_true (is_above 201 f) (list_all (is_above 201) fs) (lt-ltb (nesting f) 201 (omega (arith, l))) (shallow_pass fs h.1)

rests_shallow : (cs : List Facts) → AllByRecursion AreShallow cs → AllByRecursion (HaveCases (is_above 201)) cs
rests_shallow [] h = tt
rests_shallow (c ∷ cs) h = (shallow_pass c.cases h.0, rests_shallow cs h.1)

pub conclusions_follow : FactsFollow
conclusions_follow worth holds s point c is_at premise cases h = facts_follow worth holds s point is_at premise (cases_said 201 s) (cases_follow worth holds s point is_at premise 201) c cases h

-- as a premise facts whose cases are nested 200 deep at most
pub premises_implied : (worth : Expression → ℤ) (holds : Expression → Bool) (s : ClauseScope) (point : ℕ → ℤ) (c : Facts) → IsAt worth holds s point → s.premise ≡ true →
    cases_pass (is_above 201) c ≡ true → all_hold holds (facts_said s c) ≡ true → facts_hold point c ≡ true
premises_implied worth holds s point c is_at premise shallow h =
    facts_implied worth holds s point is_at premise (cases_said 201 s) (is_above 201) (limit_implied worth holds s point is_at premise) c shallow h

pub premises_imply : FactsAreImplied
premises_imply worth holds s point c is_at premise shallow h = premises_implied worth holds s point c is_at premise (shallow_pass c.cases shallow) h

pub alternatives_conclude : AlternativesFollow
alternatives_conclude worth holds s point d is_at premise cases h =
    alternatives_follow worth holds s point is_at premise (cases_said 201 s) (cases_follow worth holds s point is_at premise 201) d (record { shared = cases.shared; rests = cases.rests }) h

pub alternatives_premise : AlternativesAreImplied
alternatives_premise worth holds s point d is_at premise shallow h =
    alternatives_implied worth holds s point is_at premise (cases_said 201 s) (is_above 201) (parts_above 201) (limit_implied worth holds s point is_at premise) d
    (record { shared = shallow_pass d.shared.cases shallow.shared; rests = rests_shallow d.rests shallow.rests }) h
