-- The facts of several predicates hold exactly where each of them does.
use Rattle.std.proofs.Common.{◌≡◌, ◌∙◌, ℕ, ℤ, ◌+ℤ◌, ◌*ℤ◌, ◌≤ℤ◌, ◌<ℤ◌, Bool, true, false, not, List, [], ◌∷◌, ◌++◌, refl, sym, ap, arith}
use Rattle.std.specs.Prelude.{◌&&◌, int_lt, int_le, if◌then◌else◌}
use Rattle.std.specs.List.{list_any, list_all}
use Rattle.std.proofs.lemmas.List.Folds.{list_all-append}
use Rattle.std.proofs.lemmas.Int.{ints}
use Rattle.std.proofs.lemmas.Bool.{or_parts}
use Rattle.math_facts.specs.Terms.{dot}
use Rattle.lin_rows.specs.Rows.{LinearRow}
use Rattle.triple_rows.specs.Predicates.{Formula, Formulas, truth, atom, and_of, or_of, no_formula, one_more}
use Rattle.explained_proof.specs.RowExpressions.Worth.{row_holds}
use Rattle.explained_proof.specs.FactExpressions.Trees.{same_terms, same_formula}
use Rattle.explained_proof.specs.FactExpressions.Facts.{Facts, no_facts, lesser, with_row, has_cases, with_cases, gathered, all_gathered, facts_from}
use Rattle.explained_proof.specs.FactExpressions.Worth.{formula_holds, each_holds, facts_hold, FactsAreTheirs, begins_with_or, AreCases}
use Rattle.explained_proof.proofs.FactExpressions.Truths.{both_true, and_true, same_truth, and_joins, found}
use Rattle.explained_proof.proofs.FactExpressions.TreeWorth.{le_yes, yes_le, terms_same, same_holds}

-- ---- truth values

swap_front : (a b c : Bool) → (a && (b && c)) ≡ (b && (a && c))
swap_front true b c = refl
swap_front false true c = refl
swap_front false false c = refl

-- one row more
row_in : (n h r c : Bool) → (n && ((h && r) && c)) ≡ (h && (n && (r && c)))
row_in true true r c = refl
row_in true false r c = refl
row_in false true r c = refl
row_in false false r c = refl

-- one predicate with cases more
case_in : (n r c h : Bool) → (n && (r && (c && (h && true)))) ≡ (h && (n && (r && c)))
case_in true true true true = refl
case_in true true true false = refl
case_in true true false true = refl
case_in true true false false = refl
case_in true false c true = refl
case_in true false c false = refl
case_in false r c true = refl
case_in false r c false = refl

and_true_end : (a : Bool) → (a && true) ≡ a
and_true_end true = refl
and_true_end false = refl

module _ (point : ℕ → ℤ) where
  abbrev meets_row : LinearRow → Bool
  meets_row r = row_holds point r false

  -- ---- rows

  below_least : (d a b : ℤ) → int_lt a b ≡ true → int_le d a ≡ (int_le d a && int_le d b)
  below_least d a b l = same_truth (int_le d a) (int_le d a && int_le d b) (λ h. and_true (int_le d a) (int_le d b) h (yes_le d b (up (le_yes d a h)))) (λ h. (both_true (int_le d a) (int_le d b) h).0)
    where
      less : a <ℤ b
      less = grind (arith, ints)

      up : d ≤ℤ a → d ≤ℤ b
      up h = omega (arith, ints, less)

  below_other : (d a b : ℤ) → int_lt a b ≡ false → int_le d b ≡ (int_le d a && int_le d b)
  below_other d a b l = same_truth (int_le d b) (int_le d a && int_le d b) (λ h. and_true (int_le d a) (int_le d b) (yes_le d a (up (le_yes d b h))) h) (λ h. (both_true (int_le d a) (int_le d b) h).1)
    where
      less : b ≤ℤ a
      less = grind (arith, ints)

      up : d ≤ℤ b → d ≤ℤ a
      up h = omega (arith, ints, less)

  lesser_by : (b : Bool) (r s : LinearRow) → int_lt r.bound s.bound ≡ b → s.terms ≡ r.terms → meets_row (if b then r else s) ≡ (meets_row r && meets_row s)
  lesser_by true r s e t =
      below_least (dot point r.terms) r.bound s.bound e ∙ ap (λ ts. meets_row r && int_le (dot point ts) s.bound) (sym t)
  lesser_by false r s e t =
      ap (λ ts. int_le (dot point ts) s.bound) t ∙ below_other (dot point r.terms) r.bound s.bound e ∙ ap (λ ts. meets_row r && int_le (dot point ts) s.bound) (sym t)

  merged_by : (b : Bool) (r s : LinearRow) (rs : List LinearRow) → same_terms s r ≡ b → list_all meets_row (with_row r rs) ≡ (meets_row r && list_all meets_row rs) →
      list_all meets_row (if b then lesser r s ∷ rs else s ∷ with_row r rs) ≡ (meets_row r && (meets_row s && list_all meets_row rs))
  merged_by true r s rs e h =
      ap (λ x. x && list_all meets_row rs) (lesser_by (int_lt r.bound s.bound) r s refl (terms_same s.terms r.terms e)) ∙ and_joins (meets_row r) (meets_row s) (list_all meets_row rs)
  merged_by false r s rs e h = ap (λ x. meets_row s && x) h ∙ swap_front (meets_row s) (meets_row r) (list_all meets_row rs)

  -- rows with one more hold where that one and the others do
  pub with_row_holds : (r : LinearRow) (rs : List LinearRow) → list_all meets_row (with_row r rs) ≡ (meets_row r && list_all meets_row rs)
  with_row_holds r [] = refl
  with_row_holds r (s ∷ rs) = merged_by (same_terms s r) r s rs refl (with_row_holds r rs)

  -- ---- predicates with cases

  has_there : (fs : List Formula) (f : Formula) → has_cases fs f ≡ true → list_all (formula_holds point) fs ≡ true → formula_holds point f ≡ true
  has_there fs f h k = let w = found (λ g. same_formula g f) (formula_holds point) fs h k in sym (same_holds point w.0 f w.1) ∙ w.2

  absorbed : (x a : Bool) → (a ≡ true → x ≡ true) → a ≡ (a && (x && true))
  absorbed x true f = sym (ap (λ b. b && true) (f refl))
  absorbed x false f = refl

  cases_by : (b : Bool) (f : Formula) (fs : List Formula) → has_cases fs f ≡ b →
      list_all (formula_holds point) (if b then fs else fs ++ f ∷ []) ≡ (list_all (formula_holds point) fs && (formula_holds point f && true))
  cases_by true f fs e = absorbed (formula_holds point f) (list_all (formula_holds point) fs) (has_there fs f e)
  cases_by false f fs e = list_all-append (formula_holds point) fs (f ∷ [])

  with_cases_holds : (f : Formula) (fs : List Formula) → list_all (formula_holds point) (with_cases f fs) ≡ (list_all (formula_holds point) fs && (formula_holds point f && true))
  with_cases_holds f fs = cases_by (has_cases fs f) f fs refl

  -- ---- predicates gathered
  mutual
    pub gathered_holds : (f : Formula) (c : Facts) → facts_hold point (gathered f c) ≡ (formula_holds point f && facts_hold point c)
    gathered_holds (truth true) c = refl
    gathered_holds (truth false) c = refl
    gathered_holds (atom r) c =
        ap (λ b. not c.never && (b && list_all (formula_holds point) c.cases)) (with_row_holds r c.rows) ∙
        row_in (not c.never) (meets_row r) (list_all meets_row c.rows) (list_all (formula_holds point) c.cases)
    gathered_holds (and_of fs) c = all_gathered_hold fs c
    gathered_holds (or_of fs) c =
        ap (λ b. not c.never && (list_all meets_row c.rows && b)) (with_cases_holds (or_of fs) c.cases) ∙
        case_in (not c.never) (list_all meets_row c.rows) (list_all (formula_holds point) c.cases) (formula_holds point (or_of fs))

    all_gathered_hold : (fs : Formulas) (c : Facts) → facts_hold point (all_gathered fs c) ≡ (each_holds point fs && facts_hold point c)
    all_gathered_hold no_formula c = refl
    all_gathered_hold (one_more f fs) c =
        all_gathered_hold fs (gathered f c) ∙ ap (λ b. each_holds point fs && b) (gathered_holds f c) ∙
        swap_front (each_holds point fs) (formula_holds point f) (facts_hold point c) ∙ sym (and_joins (formula_holds point f) (each_holds point fs) (facts_hold point c))

  pub gathered_alone : (f : Formula) → facts_hold point (gathered f no_facts) ≡ formula_holds point f
  gathered_alone f = gathered_holds f no_facts ∙ and_true_end (formula_holds point f)

  pub facts_from_hold : (fs : List Formula) (c : Facts) → facts_hold point (facts_from fs c) ≡ (list_all (formula_holds point) fs && facts_hold point c)
  facts_from_hold [] c = refl
  facts_from_hold (f ∷ fs) c =
      facts_from_hold fs (gathered f c) ∙ ap (λ b. list_all (formula_holds point) fs && b) (gathered_holds f c) ∙
      swap_front (list_all (formula_holds point) fs) (formula_holds point f) (facts_hold point c) ∙ sym (and_joins (formula_holds point f) (list_all (formula_holds point) fs) (facts_hold point c))

pub facts_are_theirs : FactsAreTheirs
facts_are_theirs point fs = facts_from_hold point fs no_facts ∙ and_true_end (list_all (formula_holds point) fs)

-- ---- what is gathered begins with `or`

cases_more : (b : Bool) (f : Formula) (fs : List Formula) → begins_with_or f ≡ true → list_all begins_with_or fs ≡ true → list_all begins_with_or (if b then fs else fs ++ f ∷ []) ≡ true
cases_more true f fs e h = h
cases_more false f fs e h = list_all-append begins_with_or fs (f ∷ []) ∙ and_true (list_all begins_with_or fs) (begins_with_or f && true) h (and_true (begins_with_or f) true e refl)

mutual
  pub gathered_cases : (f : Formula) (c : Facts) → AreCases c → AreCases (gathered f c)
  gathered_cases (truth true) c h = h
  gathered_cases (truth false) c h = h
  gathered_cases (atom r) c h = h
  gathered_cases (and_of fs) c h = all_gathered_cases fs c h
  gathered_cases (or_of fs) c h = cases_more (has_cases c.cases (or_of fs)) (or_of fs) c.cases refl h

  all_gathered_cases : (fs : Formulas) (c : Facts) → AreCases c → AreCases (all_gathered fs c)
  all_gathered_cases no_formula c h = h
  all_gathered_cases (one_more f fs) c h = all_gathered_cases fs (gathered f c) (gathered_cases f c h)

pub facts_from_cases : (fs : List Formula) (c : Facts) → AreCases c → AreCases (facts_from fs c)
facts_from_cases [] c h = h
facts_from_cases (f ∷ fs) c h = facts_from_cases fs (gathered f c) (gathered_cases f c h)

-- ---- points that agree where the columns do not pass a test

module _ (p q : ℕ → ℤ) (test : ℕ → Bool) where
  same_dot : (ts : List (ℕ × ℤ)) → ((n : ℕ) → test n ≡ false → p n ≡ q n) → list_any (λ t. test t.0) ts ≡ false → dot p ts ≡ dot q ts
  same_dot [] f h = refl
  same_dot (t ∷ ts) f h =
      let a = or_parts (test t.0) (list_any (λ u. test u.0) ts) h in
      ap (λ z. (t.1 *ℤ z) +ℤ dot p ts) (f t.0 a.0) ∙ ap (λ z. (t.1 *ℤ q t.0) +ℤ z) (same_dot ts f a.1)

  -- rows without such columns hold at both or at none
  pub same_rows : (rs : List LinearRow) → ((n : ℕ) → test n ≡ false → p n ≡ q n) → list_any (λ r. list_any (λ t. test t.0) r.terms) rs ≡ false →
      list_all (λ r. row_holds p r false) rs ≡ list_all (λ r. row_holds q r false) rs
  same_rows [] f h = refl
  same_rows (r ∷ rs) f h =
      let a = or_parts (list_any (λ t. test t.0) r.terms) (list_any (λ x. list_any (λ t. test t.0) x.terms) rs) h in
      ap (λ z. int_le z r.bound && list_all (λ x. row_holds p x false) rs) (same_dot r.terms f a.0) ∙ ap (λ b. row_holds q r false && b) (same_rows rs f a.1)
