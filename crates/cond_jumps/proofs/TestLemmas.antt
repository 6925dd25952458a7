-- Plans that follow a truth value: of literals, of comparisons, and of operators on conditions.
use Rattle.std.proofs.Common.{◌≡◌, ◌⊎◌, inl, inr, ℕ, Bool, true, false, not, ◌&&◌, ◌||◌, ℤ, pos, negsuc, ◌-ℤ◌, ◌≤ℤ◌, int_lt, int_le, refl, sym, ◌∙◌, subst, arith}
use Rattle.std.proofs.lemmas.Int.{ints}
use Rattle.std.proofs.lemmas.Bool.{false≢true}
use Rattle.std.proofs.lemmas.Bool.Decides.{nat_tests}
use Rattle.boogie_tree.specs.declared.tree.Op.{Op}
use Rattle.boogie_tree.specs.declared.tree.Op.TheVariants.{Iff, Implies, And, Or, Eq, Ne}
use Rattle.typed_tree.specs.Values.{truth, same}
use Rattle.typed_tree.specs.Laws.{IsTruth}
use Rattle.cond_jumps.specs.Conjunctions.{Jumps, Plan, Then, With, listed_plan}
use Rattle.cond_jumps.specs.Forms.{Linears}
use Rattle.cond_jumps.specs.Comparisons.{no_jumps, always, literal, alike, operation_plan}
use Rattle.cond_jumps.specs.Meaning.{IsPath}
use Rattle.cond_jumps.specs.Worth.{IsChoice}
use Rattle.cond_jumps.proofs.MeaningLemmas.{path_as, path_either, path_both}
use Rattle.cond_jumps.proofs.ComparisonLemmas.{never_path, always_path}

-- the truth value is the wanted one
abbrev pub is_wanted : Bool → Bool → Bool
is_wanted b true = b
is_wanted b false = not b

-- the plans say when the truth value b is the wanted one
pub record IsTest (w : ℕ) (p : ℕ → ℤ) (a : Bool → Plan) (b : Bool) : Type 0 where
  pub path : (want : Bool) → IsPath w p (listed_plan (a want)) (is_wanted b want ≡ true)

-- ---- truth values as numbers

truth_is : (b : Bool) → IsTruth (truth b)
truth_is true = inr refl
truth_is false = inl refl

zero_is_not_one : pos 0 ≡ pos 1 → ⊥
zero_is_not_one e = absurd (omega (arith, ints))

wanted_so : (b want : Bool) → is_wanted b want ≡ true → truth b ≡ truth want
wanted_so true true e = refl
wanted_so true false e = absurd (false≢true e)
wanted_so false true e = absurd (false≢true e)
wanted_so false false e = refl

wanted_back : (b want : Bool) → truth b ≡ truth want → is_wanted b want ≡ true
wanted_back true true e = refl
wanted_back true false e = absurd (zero_is_not_one (sym e))
wanted_back false true e = absurd (zero_is_not_one e)
wanted_back false false e = refl

-- a test of the truth value of a number
pub choice_of_test : (w : ℕ) (p : ℕ → ℤ) (a : Bool → Plan) (b : Bool) (v : ℤ) → v ≡ truth b → IsTest w p a b → IsChoice w p a v
choice_of_test w p a b v e h =
    let P : ℤ → Type 0 = λ z. IsChoice w p a z in
    subst P (sym e) (record {
      truth_value = truth_is b;
      path = λ want. path_as w p (listed_plan (a want)) (is_wanted b want ≡ true) (truth b ≡ truth want) (wanted_so b want) (wanted_back b want) (h.path want);
    })

-- a number that is a truth value, and a test of it
pub record IsTestOf (w : ℕ) (p : ℕ → ℤ) (a : Bool → Plan) (v : ℤ) : Type 0 where
  pub truth_value : Bool
  pub is : v ≡ truth truth_value
  pub test : IsTest w p a truth_value

pub test_of_choice : (w : ℕ) (p : ℕ → ℤ) (a : Bool → Plan) (v : ℤ) → IsChoice w p a v → IsTestOf w p a v
test_of_choice w p a v h = by_truth h.truth_value
  where
    as_test : (b : Bool) → v ≡ truth b → IsTest w p a b
    as_test b e = record {
      path = λ want. path_as w p (listed_plan (a want)) (v ≡ truth want) (is_wanted b want ≡ true)
          (λ f. wanted_back b want (sym e ∙ f)) (λ f. e ∙ wanted_so b want f) (h.path want);
    }

    by_truth : IsTruth v → IsTestOf w p a v
    by_truth (inl e) = record { truth_value = false; is = e; test = as_test false e }
    by_truth (inr e) = record { truth_value = true; is = e; test = as_test true e }

-- ---- "or" and "and" of tests

or_so : (x y : Bool) → ((x ≡ true) ⊎ (y ≡ true)) → (x || y) ≡ true
or_so true y h = refl
or_so false y (inl e) = absurd (false≢true e)
or_so false y (inr e) = e

or_back : (x y : Bool) → (x || y) ≡ true → (x ≡ true) ⊎ (y ≡ true)
or_back true y h = inl refl
or_back false y h = inr h

and_so : (x y : Bool) → (x ≡ true) × (y ≡ true) → (x && y) ≡ true
and_so true y h = h.1
and_so false y h = absurd (false≢true h.0)

and_back : (x y : Bool) → (x && y) ≡ true → (x ≡ true) × (y ≡ true)
and_back true y h = (refl, h)
and_back false y h = absurd (false≢true h)

apart : (x y : Bool) → (x && y) ≡ false → x ≡ true → y ≡ true → ⊥
apart x y e f g = false≢true (sym e ∙ and_so x y (f, g))

then_path : (w : ℕ) (p : ℕ → ℤ) (a b : Plan) (x y : Bool) → (x && y) ≡ false → IsPath w p (listed_plan a) (x ≡ true) → IsPath w p (listed_plan b) (y ≡ true) →
    IsPath w p (listed_plan (Then a b)) ((x || y) ≡ true)
then_path w p a b x y e h k =
    path_as w p (listed_plan (Then a b)) ((x ≡ true) ⊎ (y ≡ true)) ((x || y) ≡ true) (or_so x y) (or_back x y)
    (path_either w p (listed_plan a) (listed_plan b) (x ≡ true) (y ≡ true) (apart x y e) h k)

with_path : (w : ℕ) (p : ℕ → ℤ) (a b : Plan) (x y : Bool) → IsPath w p (listed_plan a) (x ≡ true) → IsPath w p (listed_plan b) (y ≡ true) →
    IsPath w p (listed_plan (With a b)) ((x && y) ≡ true)
with_path w p a b x y h k =
    path_as w p (listed_plan (With a b)) ((x ≡ true) × (y ≡ true)) ((x && y) ≡ true) (and_so x y) (and_back x y)
    (path_both w p (listed_plan a) (listed_plan b) (x ≡ true) (y ≡ true) h k)

-- the same list for an equal test
as_path : (w : ℕ) (p : ℕ → ℤ) (a : Jumps) (x y : Bool) → x ≡ y → IsPath w p a (x ≡ true) → IsPath w p a (y ≡ true)
as_path w p a x y e h = let P : Bool → Type 0 = λ z. IsPath w p a (z ≡ true) in subst P e h

-- the same list for a fact that the test says
pub told_path : (w : ℕ) (p : ℕ → ℤ) (a : Jumps) (P : Type 0) (x : Bool) → (P → x ≡ true) → (x ≡ true → P) → IsPath w p a P → IsPath w p a (x ≡ true)
told_path w p a P x f g h = path_as w p a P (x ≡ true) f g h

-- ---- literals

pub literal_test : (w : ℕ) (p : ℕ → ℤ) (b : Bool) → IsTest w p (literal b) b
literal_test w p b = record { path = λ want. by_cases b want }
  where
    yes_path : IsPath w p always (true ≡ true)
    yes_path = path_as w p always (Unit {0}) (true ≡ true) (λ x. refl) (λ x. tt) (always_path w p)

    no_path : IsPath w p no_jumps (false ≡ true)
    no_path = path_as w p no_jumps ⊥ (false ≡ true) (λ x. absurd x) (λ e. false≢true e) (never_path w p)

    by_cases : (b want : Bool) → IsPath w p (listed_plan (literal b want)) (is_wanted b want ≡ true)
    by_cases true true = yes_path
    by_cases true false = no_path
    by_cases false true = no_path
    by_cases false false = yes_path

-- a test of the opposite
pub not_test : (w : ℕ) (p : ℕ → ℤ) (a : Bool → Plan) (b : Bool) → IsTest w p a b → IsTest w p (λ want. a (not want)) (not b)
not_test w p a b h = record { path = λ want. as_path w p (listed_plan (a (not want))) (is_wanted b (not want)) (is_wanted (not b) want) (turned b want) (h.path (not want)) }
  where
    turned : (b want : Bool) → is_wanted b (not want) ≡ is_wanted (not b) want
    turned true true = refl
    turned true false = refl
    turned false true = refl
    turned false false = refl

-- ---- operators on conditions

-- what an operator makes of two truth values
abbrev pub truth_operation : Op → Bool → Bool → Bool
truth_operation Iff x y = is_wanted x y
truth_operation Implies x y = not x || y
truth_operation And x y = x && y
truth_operation Or x y = x || y
truth_operation Eq x y = is_wanted x y
truth_operation Ne x y = not (is_wanted x y)
truth_operation op x y = false

pub alike_test : (w : ℕ) (p : ℕ → ℤ) (a b : Bool → Plan) (x y : Bool) → IsTest w p a x → IsTest w p b y → IsTest w p (alike a b) (is_wanted x y)
alike_test w p a b x y h k =
    record {
      path = λ want.
          as_path w p (listed_plan (alike a b want)) ((x && is_wanted y want) || (not x && is_wanted y (not want))) (is_wanted (is_wanted x y) want) (table x y want)
          (then_path w p (With (a true) (b want)) (With (a false) (b (not want))) (x && is_wanted y want) (not x && is_wanted y (not want)) (once x y want)
          (with_path w p (a true) (b want) x (is_wanted y want) (h.path true) (k.path want))
          (with_path w p (a false) (b (not want)) (not x) (is_wanted y (not want)) (h.path false) (k.path (not want))));
    }
  where
    table : (x y want : Bool) → ((x && is_wanted y want) || (not x && is_wanted y (not want))) ≡ is_wanted (is_wanted x y) want
    table true true true = refl
    table true true false = refl
    table true false true = refl
    table true false false = refl
    table false true true = refl
    table false true false = refl
    table false false true = refl
    table false false false = refl

    once : (x y want : Bool) → ((x && is_wanted y want) && (not x && is_wanted y (not want))) ≡ false
    once true true true = refl
    once true true false = refl
    once true false true = refl
    once true false false = refl
    once false true true = refl
    once false true false = refl
    once false false true = refl
    once false false false = refl

-- one condition, or else its opposite with another
or_with : (w : ℕ) (p : ℕ → ℤ) (a b : Bool → Plan) (x y : Bool) (first second : Bool) → IsTest w p a x → IsTest w p b y →
    IsPath w p (listed_plan (Then (a first) (With (a (not first)) (b second)))) ((is_wanted x first || (is_wanted x (not first) && is_wanted y second)) ≡ true)
or_with w p a b x y first second h k =
    then_path w p (a first) (With (a (not first)) (b second)) (is_wanted x first) (is_wanted x (not first) && is_wanted y second) (once x first (is_wanted y second))
    (h.path first) (with_path w p (a (not first)) (b second) (is_wanted x (not first)) (is_wanted y second) (h.path (not first)) (k.path second))
  where
    once : (x first z : Bool) → (is_wanted x first && (is_wanted x (not first) && z)) ≡ false
    once true true z = refl
    once true false z = refl
    once false true z = refl
    once false false z = refl

pub implies_test : (w : ℕ) (p : ℕ → ℤ) (kind : Bool) (a b : Bool → Plan) (xs ys : Linears) (x y : Bool) → IsTest w p a x → IsTest w p b y →
    IsTest w p (operation_plan Implies kind a b xs ys) (not x || y)
implies_test w p kind a b xs ys x y h k = record { path = λ want. by_want want }
  where
    table : (x y : Bool) → (not x || (x && y)) ≡ (not x || y)
    table true y = refl
    table false y = refl

    broken : (x y : Bool) → (x && not y) ≡ not (not x || y)
    broken true y = refl
    broken false y = refl

    by_want : (want : Bool) → IsPath w p (listed_plan (operation_plan Implies kind a b xs ys want)) (is_wanted (not x || y) want ≡ true)
    by_want true =
        as_path w p (listed_plan (Then (a false) (With (a true) (b true)))) (not x || (x && y)) (not x || y) (table x y) (or_with w p a b x y false true h k)
    by_want false =
        as_path w p (listed_plan (With (a true) (b false))) (x && not y) (not (not x || y)) (broken x y) (with_path w p (a true) (b false) x (not y) (h.path true) (k.path false))

pub and_test : (w : ℕ) (p : ℕ → ℤ) (kind : Bool) (a b : Bool → Plan) (xs ys : Linears) (x y : Bool) → IsTest w p a x → IsTest w p b y →
    IsTest w p (operation_plan And kind a b xs ys) (x && y)
and_test w p kind a b xs ys x y h k = record { path = λ want. by_want want }
  where
    table : (x y : Bool) → (not x || (x && not y)) ≡ not (x && y)
    table true y = refl
    table false y = refl

    by_want : (want : Bool) → IsPath w p (listed_plan (operation_plan And kind a b xs ys want)) (is_wanted (x && y) want ≡ true)
    by_want true = with_path w p (a true) (b true) x y (h.path true) (k.path true)
    by_want false =
        as_path w p (listed_plan (Then (a false) (With (a true) (b false)))) (not x || (x && not y)) (not (x && y)) (table x y) (or_with w p a b x y false false h k)

pub or_test : (w : ℕ) (p : ℕ → ℤ) (kind : Bool) (a b : Bool → Plan) (xs ys : Linears) (x y : Bool) → IsTest w p a x → IsTest w p b y →
    IsTest w p (operation_plan Or kind a b xs ys) (x || y)
or_test w p kind a b xs ys x y h k = record { path = λ want. by_want want }
  where
    table : (x y : Bool) → (x || (not x && y)) ≡ (x || y)
    table true y = refl
    table false y = refl

    broken : (x y : Bool) → (not x && not y) ≡ not (x || y)
    broken true y = refl
    broken false y = refl

    by_want : (want : Bool) → IsPath w p (listed_plan (operation_plan Or kind a b xs ys want)) (is_wanted (x || y) want ≡ true)
    by_want true =
        as_path w p (listed_plan (Then (a true) (With (a false) (b true)))) (x || (not x && y)) (x || y) (table x y) (or_with w p a b x y true true h k)
    by_want false =
        as_path w p (listed_plan (With (a false) (b false))) (not x && not y) (not (x || y)) (broken x y) (with_path w p (a false) (b false) (not x) (not y) (h.path false) (k.path false))

-- ---- comparisons

pub lt_so : (u v : ℤ) → (u -ℤ v) ≤ℤ negsuc 0 → int_lt u v ≡ true
lt_so u v h = grind (arith, ints)

pub lt_back : (u v : ℤ) → int_lt u v ≡ true → (u -ℤ v) ≤ℤ negsuc 0
lt_back u v h = grind (arith, ints)

pub not_lt_so : (u v : ℤ) → (v -ℤ u) ≤ℤ pos 0 → not (int_lt u v) ≡ true
not_lt_so u v h = grind (arith, ints)

pub not_lt_back : (u v : ℤ) → not (int_lt u v) ≡ true → (v -ℤ u) ≤ℤ pos 0
not_lt_back u v h = grind (arith, ints)

pub le_so : (u v : ℤ) → (u -ℤ v) ≤ℤ pos 0 → int_le u v ≡ true
le_so u v h = grind (arith, ints)

pub le_back : (u v : ℤ) → int_le u v ≡ true → (u -ℤ v) ≤ℤ pos 0
le_back u v h = grind (arith, ints)

pub not_le_so : (u v : ℤ) → (v -ℤ u) ≤ℤ negsuc 0 → not (int_le u v) ≡ true
not_le_so u v h = grind (arith, ints)

pub not_le_back : (u v : ℤ) → not (int_le u v) ≡ true → (v -ℤ u) ≤ℤ negsuc 0
not_le_back u v h = grind (arith, ints)

pub same_so : (u v : ℤ) → u ≡ v → same u v ≡ true
same_so u v h = grind (arith, ints, nat_tests)

pub same_back : (u v : ℤ) → same u v ≡ true → u ≡ v
same_back u v h = grind (arith, ints, nat_tests)
