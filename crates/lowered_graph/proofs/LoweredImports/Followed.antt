-- Conditions where a column that stands for a truth value may have any number: no member is met for the other truth value.
use Rattle.std.proofs.Common.{◌≡◌, inl, inr, ℕ, ◌+◌, ◌≤◌, Bool, true, false, not, ◌&&◌, ◌||◌, ℤ, pos, List, [], ◌∷◌, map, Some, option_and_then, refl, sym, ap, subst, ◌∙◌, arith}
use Rattle.std.specs.List.{AllByRecursion}
use Rattle.std.proofs.lemmas.Bool.{false≢true}
use Rattle.std.proofs.lemmas.Int.{ints}
use Rattle.boogie_tree.specs.declared.tree.Op.{Op}
use Rattle.boogie_tree.specs.declared.tree.Op.TheVariants.{Iff, Implies, And, Or, Eq, Ne, Lt, Le, Gt, Ge, Add, Sub, Mul, Div, Mod}
use Rattle.boogie_tree.specs.declared.tree.Ty.{Ty}
use Rattle.boogie_tree.specs.declared.tree.Ty.TheVariants as types
use Rattle.boogie_tree.specs.declared.tree.Column.{Column}
use Rattle.typed_tree.specs.TypedTree.{TypedExpression, Lit, Truth, Var, Old, Not, Neg, Bin}
use Rattle.typed_tree.specs.Typing.{same_type, only, operation_type}
use Rattle.typed_tree.specs.Values.{State, column_value, value, truth, value_is_zero, same, operation_value}
use Rattle.typed_tree.specs.AffineForm.{read_at, divisor_of, is_linear}
use Rattle.typed_tree.specs.Laws.{state_of, FixedStay}
use Rattle.cond_jumps.specs.Conjunctions.{Conjunction, Jumps, Plan, Then, With, joined, each_with, listed_plan}
use Rattle.cond_jumps.specs.Forms.{Linears, linear_negated}
use Rattle.cond_jumps.specs.Comparisons.{literal, alike, operation_plan}
use Rattle.cond_jumps.specs.Meaning.{Agrees, Meets, IsPath}
use Rattle.cond_jumps.specs.Environments.{Environment, type_in}
use Rattle.cond_jumps.specs.Paths.{constant_of, arithmetic, linear, is_truth, paths}
use Rattle.cond_jumps.specs.Worth.{IsSum, IsChoice, Shows}
use Rattle.cond_jumps.proofs.MeaningLemmas.{agrees_refl, hold_left, hold_right, meets_append, Both, path_both}
use Rattle.cond_jumps.proofs.ComparisonLemmas.{always_path}
use Rattle.cond_jumps.proofs.ConstantLemmas.{linear_parts}
use Rattle.cond_jumps.proofs.TypeLemmas.{AreTyped, operands, only_is, not_both, one_type, truth_by_type, read_value, entry_of}
use Rattle.cond_jumps.proofs.TestLemmas.{is_wanted, IsTestOf, test_of_choice, choice_of_test, literal_test}
use Rattle.cond_jumps.proofs.OperationLemmas.{sums_operation}
use Rattle.cond_jumps.proofs.LinearLemmas.{linear_form}
use Rattle.cond_jumps.proofs.PathLemmas.{paths_mean}
use Rattle.lowered_graph.specs.LoweredSteps.Edges.{all_hold}

-- ---- members of joined lists

meets_joined : (n : ℕ) (p : ℕ → ℤ) (c : Conjunction) (ds : List Conjunction) → Meets n p (map (joined c) ds) → Both n p c ds
meets_joined n p c [] h = absurd h
meets_joined n p c (d ∷ ds) (inl e) =
    record {
      point = e.0;
      agrees = e.1;
      hold = hold_left e.0 c.rows d.rows e.2;
      meets = inl (e.0, agrees_refl (n + c.helpers) e.0, hold_right e.0 c.rows d.rows e.2);
    }
meets_joined n p c (d ∷ ds) (inr h) = let b = meets_joined n p c ds h in record { point = b.point; agrees = b.agrees; hold = b.hold; meets = inr b.meets }

meets_each : (n : ℕ) (p : ℕ → ℤ) (cs : List Conjunction) (b : Jumps) (Q : Type 0) →
    ((m : ℕ) (q : ℕ → ℤ) → n ≤ m → Agrees n p q → Meets m q (b m) → Q) → Meets n p (each_with cs b n) → Meets n p cs × Q
meets_each n p [] b Q k h = absurd h
meets_each n p (c ∷ cs) b Q k h = elim (meets_append n p (map (joined c) (b (n + c.helpers))) (each_with cs b n) h) [
  | inl i ↦ (let w : Both n p c (b (n + c.helpers)) = meets_joined n p c (b (n + c.helpers)) i in (inl (w.point, w.agrees, w.hold), k (n + c.helpers) w.point (omega arith) w.agrees w.meets))
  | inr i ↦ (let w : Meets n p cs × Q = meets_each n p cs b Q k i in (inr w.0, w.1))
]

-- ---- lists of which no member is met

pub record IsRefused (w : ℕ) (p : ℕ → ℤ) (a : Plan) : Type 0 where
  pub never : (n : ℕ) (q : ℕ → ℤ) → w ≤ n → Agrees w p q → Meets n q (listed_plan a n) → ⊥

later_agrees : (w n : ℕ) (p q r : ℕ → ℤ) → w ≤ n → Agrees w p q → Agrees n q r → Agrees w p r
later_agrees w n p q r l a b = record { same = λ c k. b.same c (omega arith) ∙ a.same c k }

refused_then : (w : ℕ) (p : ℕ → ℤ) (a b : Plan) → IsRefused w p a → IsRefused w p b → IsRefused w p (Then a b)
refused_then w p a b h k = record {
  never = λ n q l s m. elim (meets_append n q (listed_plan a n) (listed_plan b n) m) [ inl i ↦ h.never n q l s i | inr i ↦ k.never n q l s i ];
}

refused_first : (w : ℕ) (p : ℕ → ℤ) (a b : Plan) → IsRefused w p a → IsRefused w p (With a b)
refused_first w p a b h = record { never = λ n q l s m. h.never n q l s (meets_each n q (listed_plan a n) (listed_plan b) (Unit {0}) (λ j r k i o. tt) m).0 }

refused_second : (w : ℕ) (p : ℕ → ℤ) (a b : Plan) → IsRefused w p b → IsRefused w p (With a b)
refused_second w p a b h = record {
  never = λ n q l s m. (meets_each n q (listed_plan a n) (listed_plan b) ⊥ (λ j r k i o. h.never j r (omega arith) (later_agrees w n p q r l s i) o) m).1;
}

-- v is a truth value, and the plans meet nothing for the other one
pub record IsFollowed (w : ℕ) (p : ℕ → ℤ) (a : Bool → Plan) (v : ℤ) : Type 0 where
  pub truth_value : Bool
  pub is : v ≡ truth truth_value
  pub refused : IsRefused w p (a (not truth_value))

wanted_other : (b : Bool) → is_wanted b (not b) ≡ true → ⊥
wanted_other true h = false≢true h
wanted_other false h = false≢true h

pub followed_of_test : (w : ℕ) (p : ℕ → ℤ) (a : Bool → Plan) (v : ℤ) → IsTestOf w p a v → IsFollowed w p a v
followed_of_test w p a v h = record {
  truth_value = h.truth_value;
  is = h.is;
  refused = record { never = λ n q l s m. wanted_other h.truth_value ((h.test.path (not h.truth_value)).so n q l s m) };
}

pub followed_of_choice : (w : ℕ) (p : ℕ → ℤ) (a : Bool → Plan) (v : ℤ) → IsChoice w p a v → IsFollowed w p a v
followed_of_choice w p a v h = followed_of_test w p a v (test_of_choice w p a v h)

-- ---- operators on conditions

alike_refused : (w : ℕ) (p : ℕ → ℤ) (a b : Bool → Plan) (x y : Bool) → IsRefused w p (a (not x)) → IsRefused w p (b (not y)) → IsRefused w p (alike a b (not (is_wanted x y)))
alike_refused w p a b true true h k = refused_then w p (With (a true) (b false)) (With (a false) (b true)) (refused_second w p (a true) (b false) k) (refused_first w p (a false) (b true) h)
alike_refused w p a b true false h k = refused_then w p (With (a true) (b true)) (With (a false) (b false)) (refused_second w p (a true) (b true) k) (refused_first w p (a false) (b false) h)
alike_refused w p a b false true h k = refused_then w p (With (a true) (b true)) (With (a false) (b false)) (refused_first w p (a true) (b true) h) (refused_second w p (a false) (b false) k)
alike_refused w p a b false false h k = refused_then w p (With (a true) (b false)) (With (a false) (b true)) (refused_first w p (a true) (b false) h) (refused_second w p (a false) (b true) k)

implies_refused : (w : ℕ) (p : ℕ → ℤ) (a b : Bool → Plan) (xs ys : Linears) (x y : Bool) → IsRefused w p (a (not x)) → IsRefused w p (b (not y)) →
    IsRefused w p (operation_plan Implies true a b xs ys (not (not x || y)))
implies_refused w p a b xs ys true true h k = refused_second w p (a true) (b false) k
implies_refused w p a b xs ys true false h k = refused_then w p (a false) (With (a true) (b true)) h (refused_second w p (a true) (b true) k)
implies_refused w p a b xs ys false y h k = refused_first w p (a true) (b false) h

and_refused : (w : ℕ) (p : ℕ → ℤ) (a b : Bool → Plan) (xs ys : Linears) (x y : Bool) → IsRefused w p (a (not x)) → IsRefused w p (b (not y)) →
    IsRefused w p (operation_plan And true a b xs ys (not (x && y)))
and_refused w p a b xs ys true true h k = refused_then w p (a false) (With (a true) (b false)) h (refused_second w p (a true) (b false) k)
and_refused w p a b xs ys true false h k = refused_second w p (a true) (b true) k
and_refused w p a b xs ys false y h k = refused_first w p (a true) (b true) h

or_refused : (w : ℕ) (p : ℕ → ℤ) (a b : Bool → Plan) (xs ys : Linears) (x y : Bool) → IsRefused w p (a (not x)) → IsRefused w p (b (not y)) →
    IsRefused w p (operation_plan Or true a b xs ys (not (x || y)))
or_refused w p a b xs ys true y h k = refused_first w p (a false) (b false) h
or_refused w p a b xs ys false true h k = refused_second w p (a false) (b false) k
or_refused w p a b xs ys false false h k = refused_then w p (a true) (With (a false) (b true)) h (refused_second w p (a false) (b true) k)

iff_value : (x y : Bool) → truth (same (truth x) (truth y)) ≡ truth (is_wanted x y)
iff_value true true = refl
iff_value true false = refl
iff_value false true = refl
iff_value false false = refl

ne_value : (x y : Bool) → truth (not (same (truth x) (truth y))) ≡ truth (not (is_wanted x y))
ne_value true true = refl
ne_value true false = refl
ne_value false true = refl
ne_value false false = refl

and_value : (x y : Bool) → operation_value And (truth x) (truth y) ≡ truth (x && y)
and_value true y = refl
and_value false y = refl

or_value : (x y : Bool) → operation_value Or (truth x) (truth y) ≡ truth (x || y)
or_value true y = refl
or_value false y = refl

implies_value : (x y : Bool) → operation_value Implies (truth x) (truth y) ≡ truth (not x || y)
implies_value true y = refl
implies_value false y = refl

ne_refused : (w : ℕ) (p : ℕ → ℤ) (a b : Bool → Plan) (z : Bool) → IsRefused w p (alike a b (not z)) → IsRefused w p (alike a b (not (not (not z))))
ne_refused w p a b true h = h
ne_refused w p a b false h = h

truths_followed : (w : ℕ) (p : ℕ → ℤ) (op : Op) (a b : Bool → Plan) (xs ys : Linears) (x y : Bool) → operation_type op types.Bool types.Bool ≡ Some types.Bool →
    IsRefused w p (a (not x)) → IsRefused w p (b (not y)) → IsFollowed w p (operation_plan op true a b xs ys) (operation_value op (truth x) (truth y))
truths_followed w p Iff a b xs ys x y t h k = record { truth_value = is_wanted x y; is = iff_value x y; refused = alike_refused w p a b x y h k }
truths_followed w p Implies a b xs ys x y t h k = record { truth_value = not x || y; is = implies_value x y; refused = implies_refused w p a b xs ys x y h k }
truths_followed w p And a b xs ys x y t h k = record { truth_value = x && y; is = and_value x y; refused = and_refused w p a b xs ys x y h k }
truths_followed w p Or a b xs ys x y t h k = record { truth_value = x || y; is = or_value x y; refused = or_refused w p a b xs ys x y h k }
truths_followed w p Eq a b xs ys x y t h k = record { truth_value = is_wanted x y; is = iff_value x y; refused = alike_refused w p a b x y h k }
truths_followed w p Ne a b xs ys x y t h k = record { truth_value = not (is_wanted x y); is = ne_value x y; refused = ne_refused w p a b (is_wanted x y) (alike_refused w p a b x y h k) }
truths_followed w p Lt a b xs ys x y t h k = absurd (cc)
truths_followed w p Le a b xs ys x y t h k = absurd (cc)
truths_followed w p Gt a b xs ys x y t h k = absurd (cc)
truths_followed w p Ge a b xs ys x y t h k = absurd (cc)
truths_followed w p Add a b xs ys x y t h k = absurd (cc)
truths_followed w p Sub a b xs ys x y t h k = absurd (cc)
truths_followed w p Mul a b xs ys x y t h k = absurd (cc)
truths_followed w p Div a b xs ys x y t h k = absurd (cc)
truths_followed w p Mod a b xs ys x y t h k = absurd (cc)

choices_followed : (w : ℕ) (p : ℕ → ℤ) (op : Op) (a b : Bool → Plan) (xs ys : Linears) (u v : ℤ) → operation_type op types.Bool types.Bool ≡ Some types.Bool →
    IsFollowed w p a u → IsFollowed w p b v → IsFollowed w p (operation_plan op true a b xs ys) (operation_value op u v)
choices_followed w p op a b xs ys u v t h k =
    let P : ℤ → ℤ → Type 0 = λ y z. IsFollowed w p (operation_plan op true a b xs ys) (operation_value op y z) in
    let r : P (truth h.truth_value) (truth k.truth_value) = truths_followed w p op a b xs ys h.truth_value k.truth_value t h.refused k.refused in
    subst (λ (y : ℤ). P y v) (sym h.is) (subst (λ (z : ℤ). P (truth h.truth_value) z) (sym k.is) r)

operation_followed : (w : ℕ) (p : ℕ → ℤ) (op : Op) (t : Ty) (kind : Bool) (a b : Bool → Plan) (xs ys : Linears) (u v : ℤ) →
    operation_type op t t ≡ Some types.Bool → kind ≡ same_type types.Bool t →
    (t ≡ types.Bool → IsFollowed w p a u) → (t ≡ types.Bool → IsFollowed w p b v) → (t ≡ types.Int → IsSum w p xs u) → (t ≡ types.Int → IsSum w p ys v) →
    IsFollowed w p (operation_plan op kind a b xs ys) (operation_value op u v)
operation_followed w p op types.Bool kind a b xs ys u v e k h i f g =
    let P : Bool → Type 0 = λ z. IsFollowed w p (operation_plan op z a b xs ys) (operation_value op u v) in
    subst P (sym k) (choices_followed w p op a b xs ys u v e (h refl) (i refl))
operation_followed w p op types.Int kind a b xs ys u v e k h i f g =
    let P : Bool → Type 0 = λ z. IsFollowed w p (operation_plan op z a b xs ys) (operation_value op u v) in
    subst P (sym k) (followed_of_test w p (operation_plan op false a b xs ys) (operation_value op u v) (sums_operation w p op a b xs ys u v e (f refl) (g refl)))

-- ---- environments

-- what stands for the columns has their values, but that the plans of truth values may meet nothing
pub record Follows (w : ℕ) (p : ℕ → ℤ) (v : Environment) (s : State) : Type 0 where
  pub constants : FixedStay v.fixed s
  pub sums : (c : Column) → v.type c ≡ Some types.Int → IsSum w p (v.sum c) (column_value s c)
  pub choices : (c : Column) → v.type c ≡ Some types.Bool → IsFollowed w p (v.plan c) (column_value s c)

-- the same with literals for truth values
abbrev with_literals : Environment → State → Environment
with_literals v s = record { type = v.type; fixed = v.fixed; sum = v.sum; plan = λ c. literal (not (value_is_zero (column_value s c))) }

truth_again : (b : Bool) → truth b ≡ truth (not (value_is_zero (truth b)))
truth_again true = refl
truth_again false = refl

literals_show : (w : ℕ) (p : ℕ → ℤ) (v : Environment) (s : State) → Follows w p v s → Shows w p (with_literals v s) s
literals_show w p v s h = record {
  constants = h.constants;
  sums = h.sums;
  choices = λ c t.
      let f : IsFollowed w p (v.plan c) (column_value s c) = h.choices c t in
      let b : Bool = not (value_is_zero (column_value s c)) in
      choice_of_test w p (literal b) b (column_value s c) (f.is ∙ truth_again f.truth_value ∙ ap (λ (z : ℤ). truth (not (value_is_zero z))) (sym f.is)) (literal_test w p b);
}

linear_same : (v : Environment) (s : State) (old : Bool) (e : TypedExpression) → linear (with_literals v s) old e ≡ linear v old e
linear_same v s old (Lit at n) = refl
linear_same v s old (Truth at b) = refl
linear_same v s old (Var at c) = refl
linear_same v s old (Old at e) = linear_same v s true e
linear_same v s old (Not at e) = refl
linear_same v s old (Neg at e) = ap linear_negated (linear_same v s old e)
linear_same v s old (Bin at op a b) = λ i. arithmetic op (constant_of a) (constant_of b) (divisor_of b) (linear_same v s old a i) (linear_same v s old b i)

type_same : (v : Environment) (s : State) (old : Bool) (e : TypedExpression) → type_in (with_literals v s) old e ≡ type_in v old e
type_same v s old (Lit at n) = refl
type_same v s old (Truth at b) = refl
type_same v s old (Var at c) = refl
type_same v s old (Old at e) = type_same v s true e
type_same v s old (Not at e) = ap (option_and_then (only types.Bool)) (type_same v s old e)
type_same v s old (Neg at e) = ap (option_and_then (only types.Int)) (type_same v s old e)
type_same v s old (Bin at op a b) = λ i. option_and_then (λ t. option_and_then (operation_type op t) (type_same v s old b i)) (type_same v s old a i)

linear_followed : (w : ℕ) (p : ℕ → ℤ) (v : Environment) (s : State) → Follows w p v s → (old : Bool) (e : TypedExpression) → type_in v old e ≡ Some types.Int → is_linear v.fixed old e ≡ true →
    IsSum w p (linear v old e) (value (state_of old s) e)
linear_followed w p v s h old e t l =
    subst (λ (x : Linears). IsSum w p x (value (state_of old s) e)) (linear_same v s old e)
    (linear_form w p (with_literals v s) s (literals_show w p v s h) old e (type_same v s old e ∙ t) l)

-- ---- conditions

not_value : (b : Bool) → truth (value_is_zero (truth b)) ≡ truth (not b)
not_value true = refl
not_value false = refl

not_refused : (w : ℕ) (p : ℕ → ℤ) (a : Bool → Plan) (b : Bool) → IsRefused w p (a (not b)) → IsRefused w p (a (not (not (not b))))
not_refused w p a true h = h
not_refused w p a false h = h

pub paths_followed : (w : ℕ) (p : ℕ → ℤ) (v : Environment) (s : State) → Follows w p v s → (old : Bool) (e : TypedExpression) →
    type_in v old e ≡ Some types.Bool → is_linear v.fixed old e ≡ true → IsFollowed w p (paths v old e) (value (state_of old s) e)
paths_followed w p v s h old (Lit at n) t l = absurd (not_both (let f : types.Int ≡ types.Bool = cc in f))
paths_followed w p v s h old (Truth at b) t l = followed_of_test w p (literal b) (truth b) (record { truth_value = b; is = refl; test = literal_test w p b })
paths_followed w p v s h old (Var at c) t l =
    subst (IsFollowed w p (v.plan (read_at old c))) (sym (read_value old s c)) (h.choices (read_at old c) t)
paths_followed w p v s h old (Old at e) t l =
    let P : State → Type 0 = λ z. IsFollowed w p (paths v true e) (value z e) in
    subst P (sym (entry_of old s)) (paths_followed w p v s h true e t l)
paths_followed w p v s h old (Not at e) t l =
    let r = paths_followed w p v s h old e (only_is types.Bool (type_in v old e) types.Bool t).0 l in
    record {
      truth_value = not r.truth_value;
      is = ap (λ (z : ℤ). truth (value_is_zero z)) r.is ∙ not_value r.truth_value;
      refused = not_refused w p (paths v old e) r.truth_value r.refused;
    }
paths_followed w p v s h old (Neg at e) t l = absurd (not_both (sym (only_is types.Int (type_in v old e) types.Bool t).1))
paths_followed w p v s h old (Bin at op a b) t l =
    let o : AreTyped v old op a b types.Bool = operands v old op a b types.Bool t in
    let d = linear_parts v.fixed old op a b l in
    let one : o.second ≡ o.first = one_type op o.first o.second types.Bool o.operation_is in
    let e : operation_type op o.first o.first ≡ Some types.Bool =
    (let P : Ty → Type 0 = λ z. operation_type op o.first z ≡ Some types.Bool in subst P one o.operation_is) in
    let y : type_in v old b ≡ Some o.first = o.second_is ∙ ap Some one in
    operation_followed w p op o.first (is_truth v old a) (paths v old a) (paths v old b) (linear v old a) (linear v old b)
    (value (state_of old s) a) (value (state_of old s) b) e (truth_by_type v old a o.first o.first_is)
    (λ k. paths_followed w p v s h old a (o.first_is ∙ ap Some k) d.0)
    (λ k. paths_followed w p v s h old b (y ∙ ap Some k) d.1)
    (λ k. linear_followed w p v s h old a (o.first_is ∙ ap Some k) d.0)
    (λ k. linear_followed w p v s h old b (y ∙ ap Some k) d.1)

-- ---- all of several conditions

-- a condition that is typed, and whose operators keep their rules
pub record IsTypedIn (v : Environment) (e : TypedExpression) : Type 0 where
  pub typed : type_in v false e ≡ Some types.Bool
  pub linear : is_linear v.fixed false e ≡ true

abbrev pub AreTrue : State → List TypedExpression → Type 0
AreTrue s es = AllByRecursion (λ e. value s e ≡ pos 1) es

zero_is_not_one : pos 0 ≡ pos 1 → ⊥
zero_is_not_one e = absurd (omega (arith, ints))

true_of : (w : ℕ) (p : ℕ → ℤ) (a : Bool → Plan) (v : ℤ) → IsFollowed w p a v → (n : ℕ) (q : ℕ → ℤ) → w ≤ n → Agrees w p q → Meets n q (listed_plan (a true) n) → v ≡ pos 1
true_of w p a v f n q l s m = by_truth f.truth_value f.is f.refused
  where
    by_truth : (b : Bool) → v ≡ truth b → IsRefused w p (a (not b)) → v ≡ pos 1
    by_truth true e r = e
    by_truth false e r = absurd (r.never n q l s m)

pub all_followed : (w : ℕ) (p : ℕ → ℤ) (v : Environment) (s : State) → Follows w p v s → (es : List TypedExpression) → AllByRecursion (IsTypedIn v) es →
    (n : ℕ) (q : ℕ → ℤ) → w ≤ n → Agrees w p q → Meets n q (listed_plan (all_hold v es) n) → AreTrue s es
all_followed w p v s h [] t n q l a m = tt
all_followed w p v s h (e ∷ es) t n q l a m =
    let r = meets_each n q (listed_plan (paths v false e true) n) (listed_plan (all_hold v es)) (AreTrue s es)
    (λ j r k b o. all_followed w p v s h es t.1 j r (omega arith) (later_agrees w n p q r l a b) o) m in
    (true_of w p (paths v false e) (value s e) (paths_followed w p v s h false e t.0.typed t.0.linear) n q l a r.0, r.1)

pub all_hold_path : (w : ℕ) (p : ℕ → ℤ) (v : Environment) (s : State) → Shows w p v s → (es : List TypedExpression) → AllByRecursion (IsTypedIn v) es →
    IsPath w p (listed_plan (all_hold v es)) (AreTrue s es)
all_hold_path w p v s h [] t = always_path w p
all_hold_path w p v s h (e ∷ es) t =
    path_both w p (listed_plan (paths v false e true)) (listed_plan (all_hold v es)) (value s e ≡ pos 1) (AreTrue s es)
    ((paths_mean w p v s h false e t.0.typed t.0.linear).path true) (all_hold_path w p v s h es t.1)
