-- Operators on sums and on conditions: their plans follow the truth value of the operation.
use Rattle.std.proofs.Common.{◌≡◌, ◌⊎◌, inl, inr, ℕ, Bool, true, false, not, ◌&&◌, ◌||◌, ℤ, pos, negsuc, ◌-ℤ◌, ◌≤ℤ◌, int_lt, int_le, Some, refl, sym, ap, subst, arith}
use Rattle.std.proofs.lemmas.Int.{ints}
use Rattle.std.proofs.lemmas.Bool.Decides.{nat_tests}
use Rattle.boogie_tree.specs.declared.tree.Op.{Op}
use Rattle.boogie_tree.specs.declared.tree.Op.TheVariants.{Iff, Implies, And, Or, Eq, Ne, Lt, Le, Gt, Ge, Add, Sub, Mul, Div, Mod}
use Rattle.boogie_tree.specs.declared.tree.Ty.TheVariants as types
use Rattle.typed_tree.specs.Typing.{operation_type}
use Rattle.typed_tree.specs.Values.{truth, same, operation_value}
use Rattle.cond_jumps.specs.Conjunctions.{Plan, listed_plan}
use Rattle.cond_jumps.specs.Forms.{Linears}
use Rattle.cond_jumps.specs.Comparisons.{compared, below_row, above_row, equal, equal_sums, operation_plan}
use Rattle.cond_jumps.specs.Meaning.{IsPath}
use Rattle.cond_jumps.specs.Worth.{IsSum}
use Rattle.cond_jumps.proofs.MeaningLemmas.{path_either}
use Rattle.cond_jumps.proofs.ComparisonLemmas.{below_path, above_path, equal_path}
use Rattle.cond_jumps.proofs.TestLemmas.{is_wanted, IsTest, IsTestOf, not_test, alike_test, implies_test, and_test, or_test, told_path, lt_so, lt_back, not_lt_so, not_lt_back, le_so, le_back, not_le_so, not_le_back, same_so, same_back}

-- ---- comparisons

below_test : (w : ℕ) (p : ℕ → ℤ) (k : ℤ) (a b : Linears) (u v : ℤ) (x : Bool) → ((u -ℤ v) ≤ℤ k → x ≡ true) → (x ≡ true → (u -ℤ v) ≤ℤ k) →
    IsSum w p a u → IsSum w p b v → IsPath w p (compared (below_row k) a b) (x ≡ true)
below_test w p k a b u v x so back h i = told_path w p (compared (below_row k) a b) ((u -ℤ v) ≤ℤ k) x so back (below_path w p k a b u v h i)

above_test : (w : ℕ) (p : ℕ → ℤ) (k : ℤ) (a b : Linears) (u v : ℤ) (x : Bool) → ((v -ℤ u) ≤ℤ k → x ≡ true) → (x ≡ true → (v -ℤ u) ≤ℤ k) →
    IsSum w p a u → IsSum w p b v → IsPath w p (compared (above_row k) a b) (x ≡ true)
above_test w p k a b u v x so back h i = told_path w p (compared (above_row k) a b) ((v -ℤ u) ≤ℤ k) x so back (above_path w p k a b u v h i)

lt_test : (w : ℕ) (p : ℕ → ℤ) (c d : Bool → Plan) (a b : Linears) (u v : ℤ) → IsSum w p a u → IsSum w p b v →
    IsTest w p (operation_plan Lt false c d a b) (int_lt u v)
lt_test w p c d a b u v h i = record { path = λ want. by_want want }
  where
    by_want : (want : Bool) → IsPath w p (listed_plan (operation_plan Lt false c d a b want)) (is_wanted (int_lt u v) want ≡ true)
    by_want true = below_test w p (negsuc 0) a b u v (int_lt u v) (lt_so u v) (lt_back u v) h i
    by_want false = above_test w p (pos 0) a b u v (not (int_lt u v)) (not_lt_so u v) (not_lt_back u v) h i

le_test : (w : ℕ) (p : ℕ → ℤ) (c d : Bool → Plan) (a b : Linears) (u v : ℤ) → IsSum w p a u → IsSum w p b v →
    IsTest w p (operation_plan Le false c d a b) (int_le u v)
le_test w p c d a b u v h i = record { path = λ want. by_want want }
  where
    by_want : (want : Bool) → IsPath w p (listed_plan (operation_plan Le false c d a b want)) (is_wanted (int_le u v) want ≡ true)
    by_want true = below_test w p (pos 0) a b u v (int_le u v) (le_so u v) (le_back u v) h i
    by_want false = above_test w p (negsuc 0) a b u v (not (int_le u v)) (not_le_so u v) (not_le_back u v) h i

gt_test : (w : ℕ) (p : ℕ → ℤ) (c d : Bool → Plan) (a b : Linears) (u v : ℤ) → IsSum w p a u → IsSum w p b v →
    IsTest w p (operation_plan Gt false c d a b) (int_lt v u)
gt_test w p c d a b u v h i = record { path = λ want. by_want want }
  where
    by_want : (want : Bool) → IsPath w p (listed_plan (operation_plan Gt false c d a b want)) (is_wanted (int_lt v u) want ≡ true)
    by_want true = above_test w p (negsuc 0) a b u v (int_lt v u) (lt_so v u) (lt_back v u) h i
    by_want false = below_test w p (pos 0) a b u v (not (int_lt v u)) (not_lt_so v u) (not_lt_back v u) h i

ge_test : (w : ℕ) (p : ℕ → ℤ) (c d : Bool → Plan) (a b : Linears) (u v : ℤ) → IsSum w p a u → IsSum w p b v →
    IsTest w p (operation_plan Ge false c d a b) (int_le v u)
ge_test w p c d a b u v h i = record { path = λ want. by_want want }
  where
    by_want : (want : Bool) → IsPath w p (listed_plan (operation_plan Ge false c d a b want)) (is_wanted (int_le v u) want ≡ true)
    by_want true = above_test w p (pos 0) a b u v (int_le v u) (le_so v u) (le_back v u) h i
    by_want false = below_test w p (negsuc 0) a b u v (not (int_le v u)) (not_le_so v u) (not_le_back v u) h i

-- different numbers: one is less, or the other
differ_so : (u v : ℤ) → ((u -ℤ v) ≤ℤ negsuc 0) ⊎ ((v -ℤ u) ≤ℤ negsuc 0) → not (same u v) ≡ true
differ_so u v (inl h) = grind (arith, ints, nat_tests)
differ_so u v (inr h) = grind (arith, ints, nat_tests)

differ_back : (u v : ℤ) → not (same u v) ≡ true → ((u -ℤ v) ≤ℤ negsuc 0) ⊎ ((v -ℤ u) ≤ℤ negsuc 0)
differ_back u v h = by_test (int_lt u v) refl
  where
    by_test : (b : Bool) → int_lt u v ≡ b → ((u -ℤ v) ≤ℤ negsuc 0) ⊎ ((v -ℤ u) ≤ℤ negsuc 0)
    by_test true e = inl (lt_back u v e)
    by_test false e = inr (grind (arith, ints, nat_tests))

equal_sums_test : (w : ℕ) (p : ℕ → ℤ) (a b : Linears) (u v : ℤ) → IsSum w p a u → IsSum w p b v → IsTest w p (equal_sums a b) (same u v)
equal_sums_test w p a b u v h i = record { path = λ want. by_want want }
  where
    by_want : (want : Bool) → IsPath w p (listed_plan (equal_sums a b want)) (is_wanted (same u v) want ≡ true)
    by_want true = told_path w p (compared equal a b) (u ≡ v) (same u v) (same_so u v) (same_back u v) (equal_path w p a b u v h i)
    by_want false =
        told_path w p (listed_plan (equal_sums a b false)) (((u -ℤ v) ≤ℤ negsuc 0) ⊎ ((v -ℤ u) ≤ℤ negsuc 0)) (not (same u v)) (differ_so u v) (differ_back u v)
        (path_either w p (compared (below_row (negsuc 0)) a b) (compared (above_row (negsuc 0)) a b) ((u -ℤ v) ≤ℤ negsuc 0) ((v -ℤ u) ≤ℤ negsuc 0)
        (λ x y. let e : ⊥ = omega (arith, ints) in e) (below_path w p (negsuc 0) a b u v h i) (above_path w p (negsuc 0) a b u v h i))

-- ---- every operator

-- a truth value with its test, for a number that is one
test_of : (w : ℕ) (p : ℕ → ℤ) (a : Bool → Plan) (v : ℤ) (b : Bool) → v ≡ truth b → IsTest w p a b → IsTestOf w p a v
test_of w p a v b e t = record { truth_value = b; is = e; test = t }

iff_value : (x y : Bool) → same (truth x) (truth y) ≡ is_wanted x y
iff_value true true = refl
iff_value true false = refl
iff_value false true = refl
iff_value false false = refl

and_value : (x y : Bool) → operation_value And (truth x) (truth y) ≡ truth (x && y)
and_value true y = refl
and_value false y = refl

or_value : (x y : Bool) → operation_value Or (truth x) (truth y) ≡ truth (x || y)
or_value true y = refl
or_value false y = refl

implies_value : (x y : Bool) → operation_value Implies (truth x) (truth y) ≡ truth (not x || y)
implies_value true y = refl
implies_value false y = refl

-- an operator on two conditions
truths_operation : (w : ℕ) (p : ℕ → ℤ) (op : Op) (a b : Bool → Plan) (xs ys : Linears) (x y : Bool) → operation_type op types.Bool types.Bool ≡ Some types.Bool →
    IsTest w p a x → IsTest w p b y → IsTestOf w p (operation_plan op true a b xs ys) (operation_value op (truth x) (truth y))
truths_operation w p Iff a b xs ys x y t h k =
    test_of w p (operation_plan Iff true a b xs ys) (operation_value Iff (truth x) (truth y)) (is_wanted x y) (ap truth (iff_value x y)) (alike_test w p a b x y h k)
truths_operation w p Implies a b xs ys x y t h k =
    test_of w p (operation_plan Implies true a b xs ys) (operation_value Implies (truth x) (truth y)) (not x || y) (implies_value x y) (implies_test w p true a b xs ys x y h k)
truths_operation w p And a b xs ys x y t h k =
    test_of w p (operation_plan And true a b xs ys) (operation_value And (truth x) (truth y)) (x && y) (and_value x y) (and_test w p true a b xs ys x y h k)
truths_operation w p Or a b xs ys x y t h k =
    test_of w p (operation_plan Or true a b xs ys) (operation_value Or (truth x) (truth y)) (x || y) (or_value x y) (or_test w p true a b xs ys x y h k)
truths_operation w p Eq a b xs ys x y t h k =
    test_of w p (operation_plan Eq true a b xs ys) (operation_value Eq (truth x) (truth y)) (is_wanted x y) (ap truth (iff_value x y)) (alike_test w p a b x y h k)
truths_operation w p Ne a b xs ys x y t h k =
    test_of w p (operation_plan Ne true a b xs ys) (operation_value Ne (truth x) (truth y)) (not (is_wanted x y)) (ap (λ (z : Bool). truth (not z)) (iff_value x y))
    (not_test w p (alike_plan a b) (is_wanted x y) (alike_test w p a b x y h k))
  where
    alike_plan : (Bool → Plan) → (Bool → Plan) → Bool → Plan
    alike_plan a b = operation_plan Eq true a b xs ys
truths_operation w p Lt a b xs ys x y t h k = absurd (cc)
truths_operation w p Le a b xs ys x y t h k = absurd (cc)
truths_operation w p Gt a b xs ys x y t h k = absurd (cc)
truths_operation w p Ge a b xs ys x y t h k = absurd (cc)
truths_operation w p Add a b xs ys x y t h k = absurd (cc)
truths_operation w p Sub a b xs ys x y t h k = absurd (cc)
truths_operation w p Mul a b xs ys x y t h k = absurd (cc)
truths_operation w p Div a b xs ys x y t h k = absurd (cc)
truths_operation w p Mod a b xs ys x y t h k = absurd (cc)

-- an operator on two whole numbers
pub sums_operation : (w : ℕ) (p : ℕ → ℤ) (op : Op) (a b : Bool → Plan) (xs ys : Linears) (u v : ℤ) → operation_type op types.Int types.Int ≡ Some types.Bool →
    IsSum w p xs u → IsSum w p ys v → IsTestOf w p (operation_plan op false a b xs ys) (operation_value op u v)
sums_operation w p Eq a b xs ys u v t h k = test_of w p (operation_plan Eq false a b xs ys) (operation_value Eq u v) (same u v) refl (equal_sums_test w p xs ys u v h k)
sums_operation w p Ne a b xs ys u v t h k =
    test_of w p (operation_plan Ne false a b xs ys) (operation_value Ne u v) (not (same u v)) refl (not_test w p (equal_sums xs ys) (same u v) (equal_sums_test w p xs ys u v h k))
sums_operation w p Lt a b xs ys u v t h k = test_of w p (operation_plan Lt false a b xs ys) (operation_value Lt u v) (int_lt u v) refl (lt_test w p a b xs ys u v h k)
sums_operation w p Le a b xs ys u v t h k = test_of w p (operation_plan Le false a b xs ys) (operation_value Le u v) (int_le u v) refl (le_test w p a b xs ys u v h k)
sums_operation w p Gt a b xs ys u v t h k = test_of w p (operation_plan Gt false a b xs ys) (operation_value Gt u v) (int_lt v u) refl (gt_test w p a b xs ys u v h k)
sums_operation w p Ge a b xs ys u v t h k = test_of w p (operation_plan Ge false a b xs ys) (operation_value Ge u v) (int_le v u) refl (ge_test w p a b xs ys u v h k)
sums_operation w p Iff a b xs ys u v t h k = absurd (cc)
sums_operation w p Implies a b xs ys u v t h k = absurd (cc)
sums_operation w p And a b xs ys u v t h k = absurd (cc)
sums_operation w p Or a b xs ys u v t h k = absurd (cc)
sums_operation w p Add a b xs ys u v t h k = absurd (cc)
sums_operation w p Sub a b xs ys u v t h k = absurd (cc)
sums_operation w p Mul a b xs ys u v t h k = absurd (cc)
sums_operation w p Div a b xs ys u v t h k = absurd (cc)
sums_operation w p Mod a b xs ys u v t h k = absurd (cc)

-- an operator on two numbers that are truth values
pub choices_operation : (w : ℕ) (p : ℕ → ℤ) (op : Op) (a b : Bool → Plan) (xs ys : Linears) (u v : ℤ) → operation_type op types.Bool types.Bool ≡ Some types.Bool →
    IsTestOf w p a u → IsTestOf w p b v → IsTestOf w p (operation_plan op true a b xs ys) (operation_value op u v)
choices_operation w p op a b xs ys u v t h k =
    let P : ℤ → ℤ → Type 0 = λ y z. IsTestOf w p (operation_plan op true a b xs ys) (operation_value op y z) in
    let r : P (truth h.truth_value) (truth k.truth_value) = truths_operation w p op a b xs ys h.truth_value k.truth_value t h.test k.test in
    subst (λ (y : ℤ). P y v) (sym h.is) (subst (λ (z : ℤ). P (truth h.truth_value) z) (sym k.is) r)
