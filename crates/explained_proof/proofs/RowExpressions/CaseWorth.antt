-- Cases of boolean columns at a point: which one is so, what its conditions are worth, and what is left of a bound.
use mathlib.Core.Bool.{beq}
use Rattle.std.proofs.Common.{◌≡◌, ◌∙◌, ◌⊎◌, inl, inr, ℕ, zero, suc, ◌^◌, ℤ, pos, ◌+ℤ◌, ◌-ℤ◌, ◌*ℤ◌, Bool, true, false, not, List, [], ◌∷◌, ◌++◌, map, length, Option, None, Some, refl, sym, ap, arith}
use Rattle.std.specs.Prelude.{◌&&◌, ◌||◌, unsigned_abs, nat_lt, if◌then◌else◌}
use Rattle.std.specs.List.{list_all}
use Rattle.std.specs.Option.{option_map, option_and_then}
use Rattle.std.specs.Ordering.{int_eq}
use Rattle.std.proofs.lemmas.Int.{ints}
use Rattle.std.proofs.lemmas.List.Folds.{list_all-append, list_all-map}
use Rattle.math_facts.specs.Terms.{dot}
use Rattle.math_facts.proofs.Whole.{product_one_right, product_zero_right}
use Rattle.boogie_tree.specs.declared.tree.Op.TheVariants as ops
use Rattle.boogie_tree.specs.Apart.{nowhere}
use Rattle.boogie_tree.specs.Tree.{Expression, Not}
use Rattle.explained_proof.specs.BuiltExpressions.Building.{chained}
use Rattle.explained_proof.specs.BuiltExpressions.Members.{or_truth}
use Rattle.explained_proof.proofs.BuiltExpressions.TruthLaws.{joined_holds}
use Rattle.explained_proof.specs.RowExpressions.Scopes.{ClauseScope, is_truth, said}
use Rattle.explained_proof.specs.RowExpressions.Cases.{cases, fit, rest, as_is, condition_said, conditions, under, implied, opposite_of, excluded_from}
use Rattle.explained_proof.specs.RowExpressions.Worth.{IsReading, HasColumns}
use Rattle.explained_proof.proofs.RowExpressions.SumWorth.{fronted, there}

-- ---- truth values

pub and_true : (a : Bool) → (a && true) ≡ a
and_true true = refl
and_true false = refl

not_not : (a : Bool) → not (not a) ≡ a
not_not true = refl
not_not false = refl

-- the conditions in front, one of them the last, and what is excluded
excluded_bool : (p x : Bool) → (not p || not x) ≡ not (p && (x && true))
excluded_bool true x = ap not (sym (and_true x))
excluded_bool false x = refl

regroup_bool : (p x r : Bool) → ((p && (x && true)) && r) ≡ (p && (x && r))
regroup_bool true true r = refl
regroup_bool true false r = refl
regroup_bool false x r = refl

beq_true : (b : Bool) → beq true b ≡ b
beq_true true = refl
beq_true false = refl

beq_false : (b : Bool) → beq false b ≡ not b
beq_false true = refl
beq_false false = refl

-- 1 where it is 1, and else 0
bit_by : (z : ℤ) → (z ≡ pos 0) ⊎ (z ≡ pos 1) → z ≡ (if int_eq z (pos 1) then pos 1 else pos 0)
bit_by z (inl e) = e ∙ sym (ap (λ y. if int_eq y (pos 1) then pos 1 else pos 0) e)
bit_by z (inr e) = e ∙ sym (ap (λ y. if int_eq y (pos 1) then pos 1 else pos 0) e)

-- ---- the case at a point

abbrev pub case_at : (ℕ → ℤ) → List (ℕ × ℤ) → List Bool
case_at point ts = map (λ t. int_eq (point t.0) (pos 1)) ts

abbrev pub same_case : List Bool → List Bool → Bool
same_case [] [] = true
same_case [] (d ∷ ds) = false
same_case (b ∷ c) [] = false
same_case (b ∷ c) (d ∷ ds) = beq b d && same_case c ds

pub beq_same : (b d : Bool) → beq b d ≡ true → b ≡ d
beq_same true true h = refl
beq_same true false h = let no : ⊥ = cc in absurd no
beq_same false true h = let no : ⊥ = cc in absurd no
beq_same false false h = refl

and_left : (a b : Bool) → (a && b) ≡ true → a ≡ true
and_left true b h = refl
and_left false b h = h

and_right : (a b : Bool) → (a && b) ≡ true → b ≡ true
and_right true b h = h
and_right false b h = let no : ⊥ = cc in absurd no

pub same_case_true : (c d : List Bool) → same_case c d ≡ true → c ≡ d
same_case_true [] [] h = refl
same_case_true [] (d ∷ ds) h = let no : ⊥ = cc in absurd no
same_case_true (b ∷ c) [] h = let no : ⊥ = cc in absurd no
same_case_true (b ∷ c) (d ∷ ds) h =
    ap (λ x. x ∷ c) (beq_same b d (and_left (beq b d) (same_case c ds) h)) ∙ ap (λ x. d ∷ x) (same_case_true c ds (and_right (beq b d) (same_case c ds) h))

all_true : (cs : List (List Bool)) → list_all (λ c. true) cs ≡ true
all_true [] = refl
all_true (c ∷ cs) = all_true cs

abbrev pub worth_of_case : List Bool → Bool → List Bool → Bool
worth_of_case d h c = if same_case c d then h else true

halves : (p : List Bool → Bool) (n : ℕ) → list_all p (cases (suc n)) ≡ (list_all (λ c. p (true ∷ c)) (cases n) && list_all (λ c. p (false ∷ c)) (cases n))
halves p n =
    list_all-append p (map (λ c. true ∷ c) (cases n)) (map (λ c. false ∷ c) (cases n)) ∙
    ap (λ b. b && list_all p (map (λ c. false ∷ c) (cases n))) (list_all-map p (λ c. true ∷ c) (cases n)) ∙
    ap (λ b. list_all (λ c. p (true ∷ c)) (cases n) && b) (list_all-map p (λ c. false ∷ c) (cases n))

-- of all cases the one at the point tells
pub only_case : (n : ℕ) (d : List Bool) (h : Bool) → length d ≡ n → list_all (worth_of_case d h) (cases n) ≡ h
only_case zero [] h e = and_true h
only_case zero (b ∷ d) h e = let no : ⊥ = omega (arith, e) in absurd no
only_case (suc n) [] h e = let no : ⊥ = omega (arith, e) in absurd no
only_case (suc n) (true ∷ d) h e =
    halves (worth_of_case (true ∷ d) h) n ∙ ap (λ b. b && list_all (λ c. true) (cases n)) (only_case n d h (omega (arith, e))) ∙
    ap (λ b. h && b) (all_true (cases n)) ∙ and_true h
only_case (suc n) (false ∷ d) h e =
    halves (worth_of_case (false ∷ d) h) n ∙ ap (λ b. b && list_all (worth_of_case d h) (cases n)) (all_true (cases n)) ∙ only_case n d h (omega (arith, e))

-- what holds in each case holds in that at the point
pub at_case : (p : List Bool → Bool) (n : ℕ) (d : List Bool) → length d ≡ n → list_all p (cases n) ≡ true → p d ≡ true
at_case p zero [] e h = and_left (p []) true h
at_case p zero (b ∷ d) e h = let no : ⊥ = omega (arith, e) in absurd no
at_case p (suc n) [] e h = let no : ⊥ = omega (arith, e) in absurd no
at_case p (suc n) (true ∷ d) e h =
    at_case (λ c. p (true ∷ c)) n d (omega (arith, e)) (and_left (list_all (λ c. p (true ∷ c)) (cases n)) (list_all (λ c. p (false ∷ c)) (cases n)) (sym (halves p n) ∙ h))
at_case p (suc n) (false ∷ d) e h =
    at_case (λ c. p (false ∷ c)) n d (omega (arith, e)) (and_right (list_all (λ c. p (true ∷ c)) (cases n)) (list_all (λ c. p (false ∷ c)) (cases n)) (sym (halves p n) ∙ h))

-- ---- what is left of a bound

fit_same : (z r : ℤ) → fit z ≡ Some r → z ≡ r
fit_same z r h = by (nat_lt (unsigned_abs z) (2 ^ 127)) h
  where
    by : (b : Bool) → (if b then Some z else None) ≡ Some r → z ≡ r
    by true e = there z r e
    by false e = let no : ⊥ = cc in absurd no

abbrev pub AreTruths : ClauseScope → List (ℕ × ℤ) → Type 0
AreTruths s ts = list_all (λ t. is_truth s t.0) ts ≡ true

taken : (b a r v D p : ℤ) → r ≡ v +ℤ D → b -ℤ a ≡ r → p ≡ a → b ≡ v +ℤ (p +ℤ D)
taken b a r v D p h e f = omega (arith, ints)

passed : (b v D p : ℤ) → b ≡ v +ℤ D → p ≡ pos 0 → b ≡ v +ℤ (p +ℤ D)
passed b v D p h f = omega (arith, ints)

ends_at : (b v : ℤ) → b ≡ v → b ≡ v +ℤ pos 0
ends_at b v h = omega (arith, ints)

module _ (worth : Expression → ℤ) (holds : Expression → Bool) (reading : IsReading worth holds) (s : ClauseScope) (point : ℕ → ℤ) (state : HasColumns worth holds s point) where
  rest_step : (o : Option ℤ) (b a v D p : ℤ) (ts : List (ℕ × ℤ)) (c : List Bool) → fit (b -ℤ a) ≡ o → ((r : ℤ) → rest r ts c ≡ Some v → r ≡ v +ℤ D) → p ≡ a →
      option_and_then (λ r. rest r ts c) o ≡ Some v → b ≡ v +ℤ (p +ℤ D)
  rest_step None b a v D p ts c f k e h = let no : ⊥ = cc in absurd no
  rest_step (Some r) b a v D p ts c f k e h = taken b a r v D p (k r h) (fit_same (b -ℤ a) r f) e

  rest_by : (d : Bool) (b : ℤ) (t : ℕ × ℤ) (ts : List (ℕ × ℤ)) (v : ℤ) → point t.0 ≡ (if d then pos 1 else pos 0) → ((r : ℤ) → rest r ts (case_at point ts) ≡ Some v → r ≡ v +ℤ dot point ts) →
      rest b (t ∷ ts) (d ∷ case_at point ts) ≡ Some v → b ≡ v +ℤ ((t.1 *ℤ point t.0) +ℤ dot point ts)
  rest_by true b t ts v e k h =
      rest_step (fit (b -ℤ t.1)) b t.1 v (dot point ts) (t.1 *ℤ point t.0) ts (case_at point ts) refl k (ap (λ y. t.1 *ℤ y) e ∙ product_one_right t.1) h
  rest_by false b t ts v e k h = passed b v (dot point ts) (t.1 *ℤ point t.0) (k b h) (ap (λ y. t.1 *ℤ y) e ∙ product_zero_right t.1)

  -- behind the columns that are true at the point
  pub rest_at_point : (ts : List (ℕ × ℤ)) → AreTruths s ts → (b v : ℤ) → rest b ts (case_at point ts) ≡ Some v → b ≡ v +ℤ dot point ts
  rest_at_point [] a b v h = ends_at b v (there b v h)
  rest_at_point (t ∷ ts) a b v h =
      rest_by (int_eq (point t.0) (pos 1)) b t ts v (bit_by (point t.0) (state.bounded t.0 (and_left (is_truth s t.0) (list_all (λ u. is_truth s u.0) ts) a)))
      (λ r. rest_at_point ts (and_right (is_truth s t.0) (list_all (λ u. is_truth s u.0) ts) a) r v) h

  -- ---- conditions

  as_is_holds : (b : Bool) (e : Expression) → holds (as_is b e) ≡ beq b (holds e)
  as_is_holds true e = sym (beq_true (holds e))
  as_is_holds false e = reading.opposites nowhere e ∙ sym (beq_false (holds e))

  condition_by : (b d : Bool) (o : Option Expression) (x : Expression) → ((e : Expression) → o ≡ Some e → holds e ≡ d) → option_map (as_is b) o ≡ Some x → holds x ≡ beq b d
  condition_by b d None x k h = let no : ⊥ = cc in absurd no
  condition_by b d (Some e) x k h = ap holds (sym (there (as_is b e) x h)) ∙ as_is_holds b e ∙ ap (beq b) (k e refl)

  condition_holds : (n : ℕ) (b : Bool) (x : Expression) → is_truth s n ≡ true → condition_said s n b ≡ Some x → holds x ≡ beq b (int_eq (point n) (pos 1))
  condition_holds n b x t h = condition_by b (int_eq (point n) (pos 1)) (said s n) x (λ e k. state.truths n e t k) h

  -- the conditions of a case hold exactly where it is the one at the point
  pub conditions_hold : (ts : List (ℕ × ℤ)) (c : List Bool) (ps : List Expression) → AreTruths s ts → length c ≡ length ts → conditions s ts c ≡ Some ps →
      list_all holds ps ≡ same_case c (case_at point ts)
  conditions_hold [] [] ps a e h = ap (list_all holds) (sym (there [] ps h))
  conditions_hold [] (b ∷ c) ps a e h = let no : ⊥ = omega (arith, e) in absurd no
  conditions_hold (t ∷ ts) [] ps a e h = let no : ⊥ = omega (arith, e) in absurd no
  conditions_hold (t ∷ ts) (b ∷ c) ps a e h =
      let f = fronted (condition_said s t.0 b) (conditions s ts c) ps h in
      let here = condition_holds t.0 b f.first (and_left (is_truth s t.0) (list_all (λ u. is_truth s u.0) ts) a) f.has_first in
      let behind = conditions_hold ts c f.rest (and_right (is_truth s t.0) (list_all (λ u. is_truth s u.0) ts) a) (omega (arith, e)) f.has_rest in
      ap (list_all holds) f.whole ∙ ap (λ x. x && list_all holds f.rest) here ∙ ap (λ x. beq b (int_eq (point t.0) (pos 1)) && x) behind

  under_by : (o : Option Expression) (q : Bool) (e : Expression) → holds (or_truth true o) ≡ q → holds (under o e) ≡ (not q || holds e)
  under_by None q e h = ap (λ b. not b || holds e) (sym (reading.truths.truths true) ∙ h)
  under_by (Some p) q e h = reading.conclusions p e ∙ ap (λ b. not b || holds e) h

  pub implied_holds : (ps : List Expression) (e : Expression) → holds (implied ps e) ≡ (not (list_all holds ps) || holds e)
  implied_holds ps e = under_by (chained ops.And ps) (list_all holds ps) e (joined_holds holds reading.truths (record { never = false; said = ps }))

  opposite_holds : (x : Expression) → holds (opposite_of x) ≡ not (holds x)
  opposite_holds (Not at e) = sym (ap not (reading.opposites at e) ∙ not_not (holds e))
  opposite_holds x = reading.opposites nowhere x

  -- that conditions are excluded holds exactly where one of them does not
  pub excluded_holds : (ps es : List Expression) (e : Expression) → excluded_from ps es ≡ Some e → holds e ≡ not (list_all holds ps && list_all holds es)
  excluded_holds ps [] e h = let no : ⊥ = cc in absurd no
  excluded_holds ps (x ∷ []) e h =
      ap holds (sym (there (implied ps (opposite_of x)) e h)) ∙ implied_holds ps (opposite_of x) ∙ ap (λ b. not (list_all holds ps) || b) (opposite_holds x) ∙
      excluded_bool (list_all holds ps) (holds x)
  excluded_holds ps (x ∷ (y ∷ ys)) e h =
      excluded_holds (ps ++ x ∷ []) (y ∷ ys) e h ∙
      ap (λ b. not (b && list_all holds (y ∷ ys))) (list_all-append holds ps (x ∷ [])) ∙
      ap not (regroup_bool (list_all holds ps) (holds x) (list_all holds (y ∷ ys)))
