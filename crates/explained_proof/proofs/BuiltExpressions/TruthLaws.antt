-- When conjunctions and disjunctions of expressions hold.
use Rattle.std.proofs.Common.{◌≡◌, ◌∙◌, Bool, true, false, List, [], ◌∷◌, length, Option, None, Some, refl, sym, ap, arith}
use Rattle.std.specs.Prelude.{◌&&◌, ◌||◌, nat_le, if◌then◌else◌}
use Rattle.std.specs.List.{list_any, list_all}
use Rattle.std.specs.Option.{option_map}
use Rattle.std.proofs.lemmas.Bool.{lt-leb}
use Rattle.std.proofs.lemmas.List.Folds.{list_all-append}
use Rattle.boogie_tree.specs.declared.tree.Op.TheVariants as ops
use Rattle.boogie_tree.specs.Tree.{Expression}
use Rattle.explained_proof.specs.BuiltExpressions.Building.{chained}
use Rattle.explained_proof.specs.BuiltExpressions.Members.{Conjuncts, always, with_members, or_truth, joined, clauses_of, is_always, may_be, just_or_denied, either, one_of}
use Rattle.explained_proof.specs.BuiltExpressions.Laws.{IsTruthTest, all_hold, BothHold}
use Rattle.explained_proof.proofs.BuiltExpressions.ChainWorth.{both, row_worth, row_first, within_worth}

and_true : (a : Bool) → (a && true) ≡ a
and_true true = refl
and_true false = refl

and_false : (a : Bool) → (a && false) ≡ false
and_false true = refl
and_false false = refl

or_false : (a : Bool) → (a || false) ≡ a
or_false true = refl
or_false false = refl

and_joins : (x y z : Bool) → ((x && y) && z) ≡ (x && (y && z))
and_joins true y z = refl
and_joins false y z = refl

or_joins : (x y z : Bool) → ((x || y) || z) ≡ (x || (y || z))
or_joins true y z = refl
or_joins false y z = refl

or_past : (a h r : Bool) → (a || r) ≡ r → (a || (h || r)) ≡ (h || r)
or_past true true r e = refl
or_past true false r e = e
or_past false h r e = refl

abbrev conj : Bool → Bool → Bool
conj x y = x && y

abbrev disj : Bool → Bool → Bool
disj x y = x || y

abbrev pick : Bool → Option Bool → Bool
pick b None = b
pick b (Some x) = x

abbrev made_of : Bool → List Expression → Conjuncts
made_of b es = record { never = b; said = es }

pick_and : (x : Bool) (o : Option Bool) → pick true (both conj (Some x) o) ≡ (x && pick true o)
pick_and x None = sym (and_true x)
pick_and x (Some y) = refl

pick_or : (x : Bool) (o : Option Bool) → pick false (both disj (Some x) o) ≡ (x || pick false o)
pick_or x None = sym (or_false x)
pick_or x (Some y) = refl

both_hold : (holds : Expression → Bool) (a b : Bool) (xs ys : List Expression) →
    all_hold holds (with_members (made_of a xs) (made_of b ys)) ≡ (all_hold holds (made_of a xs) && all_hold holds (made_of b ys))
both_hold holds true b xs ys = refl
both_hold holds false true xs ys = sym (and_false (list_all holds xs))
both_hold holds false false xs ys = list_all-append holds xs ys

pub two_hold : BothHold
two_hold holds a b = both_hold holds a.never b.never a.said b.said

module _ (holds : Expression → Bool) (test : IsTruthTest holds) where
  or_truth_holds : (b : Bool) (o : Option Expression) → holds (or_truth b o) ≡ pick b (option_map holds o)
  or_truth_holds b None = test.truths b
  or_truth_holds b (Some e) = refl

  and_row : (es : List Expression) → pick true (row_worth holds ops.And es) ≡ list_all holds es
  and_row [] = refl
  and_row (e ∷ es) =
      ap (pick true) (row_first Bool holds ops.And conj test.ands and_joins e es) ∙ pick_and (holds e) (row_worth holds ops.And es) ∙ ap (λ b. holds e && b) (and_row es)

  or_row : (es : List Expression) → pick false (row_worth holds ops.Or es) ≡ list_any holds es
  or_row [] = refl
  or_row (e ∷ es) =
      ap (pick false) (row_first Bool holds ops.Or disj test.ors or_joins e es) ∙ pick_or (holds e) (row_worth holds ops.Or es) ∙ ap (λ b. holds e || b) (or_row es)

  joined_by : (b : Bool) (es : List Expression) → holds (joined (made_of b es)) ≡ all_hold holds (made_of b es)
  joined_by true es = test.truths false
  joined_by false es =
      or_truth_holds true (chained ops.And es) ∙ ap (pick true) (within_worth Bool holds ops.And conj test.ands and_joins (length es) es) ∙ and_row es

  pub joined_holds : (m : Conjuncts) → holds (joined m) ≡ all_hold holds m
  joined_holds m = joined_by m.never m.said

  clauses_by : (b : Bool) (es : List Expression) → list_all holds (clauses_of (made_of b es)) ≡ all_hold holds (made_of b es)
  clauses_by true es = ap (λ b. b && true) (test.truths false)
  clauses_by false es = refl

  pub clauses_hold : (m : Conjuncts) → list_all holds (clauses_of m) ≡ all_hold holds m
  clauses_hold m = clauses_by m.never m.said

  just_holds : (o : Option Expression) → all_hold holds (just_or_denied o) ≡ pick false (option_map holds o)
  just_holds None = refl
  just_holds (Some e) = and_true (holds e)

  chosen_holds : (b : Bool) (all ms : List Conjuncts) → all_hold holds (either all ms) ≡ (list_any is_always ms || list_any holds (may_be all)) →
      all_hold holds (if b then always else either all ms) ≡ ((b || list_any is_always ms) || list_any holds (may_be all))
  chosen_holds true all ms e = refl
  chosen_holds false all ms e = e

  either_holds : (all ms : List Conjuncts) → all_hold holds (either all ms) ≡ (list_any is_always ms || list_any holds (may_be all))
  either_holds all [] =
      just_holds (chained ops.Or (may_be all)) ∙ ap (pick false) (within_worth Bool holds ops.Or disj test.ors or_joins (length (may_be all)) (may_be all)) ∙ or_row (may_be all)
  either_holds all (m ∷ ms) = chosen_holds (is_always m) all ms (either_holds all ms)

  may_be_by : (b : Bool) (es : List Expression) (ms : List Conjuncts) → list_any holds (may_be ms) ≡ list_any (all_hold holds) ms →
      list_any holds (may_be (made_of b es ∷ ms)) ≡ list_any (all_hold holds) (made_of b es ∷ ms)
  may_be_by true es ms e = e
  may_be_by false es ms e =
      ap (λ x. x || list_any holds (may_be ms)) (joined_by false es) ∙ ap (λ y. all_hold holds (made_of false es) || y) e

  may_be_holds : (ms : List Conjuncts) → list_any holds (may_be ms) ≡ list_any (all_hold holds) ms
  may_be_holds [] = refl
  may_be_holds (m ∷ ms) = may_be_by m.never m.said ms (may_be_holds ms)

  always_by : (b : Bool) (es : List Expression) (ms : List Conjuncts) → (list_any is_always ms || list_any (all_hold holds) ms) ≡ list_any (all_hold holds) ms →
      (list_any is_always (made_of b es ∷ ms) || list_any (all_hold holds) (made_of b es ∷ ms)) ≡ list_any (all_hold holds) (made_of b es ∷ ms)
  always_by true es ms e = e
  always_by false [] ms e = refl
  always_by false (x ∷ es) ms e =
      let more : nat_le (length (x ∷ es)) 0 ≡ false = lt-leb (length (x ∷ es)) 0 (omega arith) in
      ap (λ b. (b || list_any is_always ms) || list_any (all_hold holds) (made_of false (x ∷ es) ∷ ms)) more ∙
      or_past (list_any is_always ms) (all_hold holds (made_of false (x ∷ es))) (list_any (all_hold holds) ms) e

  always_holds : (ms : List Conjuncts) → (list_any is_always ms || list_any (all_hold holds) ms) ≡ list_any (all_hold holds) ms
  always_holds [] = refl
  always_holds (m ∷ ms) = always_by m.never m.said ms (always_holds ms)

  pub one_holds : (ms : List Conjuncts) → all_hold holds (one_of ms) ≡ list_any (all_hold holds) ms
  one_holds ms = either_holds ms ms ∙ ap (λ y. list_any is_always ms || y) (may_be_holds ms) ∙ always_holds ms
