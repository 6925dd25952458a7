-- Conditions and assignments: their lists mean what they say.
use Rattle.std.proofs.Common.{◌≡◌, ℕ, Bool, true, false, not, ℤ, Some, refl, sym, ◌∙◌, ap, subst}
use Rattle.boogie_tree.specs.declared.tree.Op.{Op}
use Rattle.boogie_tree.specs.declared.tree.Ty.{Ty}
use Rattle.boogie_tree.specs.declared.tree.Ty.TheVariants as types
use Rattle.typed_tree.specs.TypedTree.{TypedExpression, Lit, Truth, Var, Old, Not, Neg, Bin}
use Rattle.typed_tree.specs.Typing.{same_type, operation_type}
use Rattle.typed_tree.specs.Values.{State, column_value, value, truth, value_is_zero, operation_value}
use Rattle.typed_tree.specs.AffineForm.{read_at, is_linear}
use Rattle.typed_tree.specs.Laws.{state_of}
use Rattle.cond_jumps.specs.Conjunctions.{Plan}
use Rattle.cond_jumps.specs.Forms.{Linears}
use Rattle.cond_jumps.specs.Comparisons.{operation_plan}
use Rattle.cond_jumps.specs.Environments.{Environment, type_in}
use Rattle.cond_jumps.specs.Paths.{linear, is_truth, paths}
use Rattle.cond_jumps.specs.Worth.{IsSum, IsChoice, Shows}
use Rattle.cond_jumps.proofs.ConstantLemmas.{linear_parts}
use Rattle.cond_jumps.proofs.LinearLemmas.{linear_form}
use Rattle.cond_jumps.proofs.TypeLemmas.{AreTyped, operands, only_is, not_both, one_type, truth_by_type, read_value, entry_of}
use Rattle.cond_jumps.proofs.TestLemmas.{IsTestOf, choice_of_test, test_of_choice, literal_test, not_test}
use Rattle.cond_jumps.proofs.OperationLemmas.{sums_operation, choices_operation}

not_value : (b : Bool) → truth (value_is_zero (truth b)) ≡ truth (not b)
not_value true = refl
not_value false = refl

-- an operation, by the type of its operands
operation_test : (w : ℕ) (p : ℕ → ℤ) (op : Op) (t : Ty) (kind : Bool) (a b : Bool → Plan) (xs ys : Linears) (u v : ℤ) →
    operation_type op t t ≡ Some types.Bool → kind ≡ same_type types.Bool t →
    (t ≡ types.Bool → IsTestOf w p a u) → (t ≡ types.Bool → IsTestOf w p b v) → (t ≡ types.Int → IsSum w p xs u) → (t ≡ types.Int → IsSum w p ys v) →
    IsTestOf w p (operation_plan op kind a b xs ys) (operation_value op u v)
operation_test w p op types.Bool kind a b xs ys u v e k h i f g =
    let P : Bool → Type 0 = λ z. IsTestOf w p (operation_plan op z a b xs ys) (operation_value op u v) in
    subst P (sym k) (choices_operation w p op a b xs ys u v e (h refl) (i refl))
operation_test w p op types.Int kind a b xs ys u v e k h i f g =
    let P : Bool → Type 0 = λ z. IsTestOf w p (operation_plan op z a b xs ys) (operation_value op u v) in
    subst P (sym k) (sums_operation w p op a b xs ys u v e (f refl) (g refl))

-- the plans of a condition follow its value
pub paths_test : (w : ℕ) (p : ℕ → ℤ) (v : Environment) (s : State) → Shows w p v s → (old : Bool) (e : TypedExpression) →
    type_in v old e ≡ Some types.Bool → is_linear v.fixed old e ≡ true → IsTestOf w p (paths v old e) (value (state_of old s) e)
paths_test w p v s h old (Lit at n) t l = absurd (not_both (let f : types.Int ≡ types.Bool = cc in f))
paths_test w p v s h old (Truth at b) t l = record { truth_value = b; is = refl; test = literal_test w p b }
paths_test w p v s h old (Var at c) t l =
    let P : ℤ → Type 0 = λ z. IsTestOf w p (v.plan (read_at old c)) z in
    subst P (sym (read_value old s c)) (test_of_choice w p (v.plan (read_at old c)) (column_value s (read_at old c)) (h.choices (read_at old c) t))
paths_test w p v s h old (Old at e) t l =
    let P : State → Type 0 = λ z. IsTestOf w p (paths v true e) (value z e) in
    subst P (sym (entry_of old s)) (paths_test w p v s h true e t l)
paths_test w p v s h old (Not at e) t l =
    let r = paths_test w p v s h old e (only_is types.Bool (type_in v old e) types.Bool t).0 l in
    record {
      truth_value = not r.truth_value;
      is = ap (λ (z : ℤ). truth (value_is_zero z)) r.is ∙ not_value r.truth_value;
      test = not_test w p (paths v old e) r.truth_value r.test;
    }
paths_test w p v s h old (Neg at e) t l = absurd (not_both (sym (only_is types.Int (type_in v old e) types.Bool t).1))
paths_test w p v s h old (Bin at op a b) t l =
    let o : AreTyped v old op a b types.Bool = operands v old op a b types.Bool t in
    let d = linear_parts v.fixed old op a b l in
    let one : o.second ≡ o.first = one_type op o.first o.second types.Bool o.operation_is in
    let e : operation_type op o.first o.first ≡ Some types.Bool =
    (let P : Ty → Type 0 = λ z. operation_type op o.first z ≡ Some types.Bool in subst P one o.operation_is) in
    let y : type_in v old b ≡ Some o.first = o.second_is ∙ ap Some one in
    operation_test w p op o.first (is_truth v old a) (paths v old a) (paths v old b) (linear v old a) (linear v old b)
    (value (state_of old s) a) (value (state_of old s) b) e (truth_by_type v old a o.first o.first_is)
    (λ k. paths_test w p v s h old a (o.first_is ∙ ap Some k) d.0)
    (λ k. paths_test w p v s h old b (y ∙ ap Some k) d.1)
    (λ k. linear_form w p v s h old a (o.first_is ∙ ap Some k) d.0)
    (λ k. linear_form w p v s h old b (y ∙ ap Some k) d.1)

-- Where what stands for the columns has their values, a condition is 0 or 1, a member of the list for the wanted truth
-- value is met exactly where it has that value, and at most one member is met, with unique helpers.
pub paths_mean : (w : ℕ) (p : ℕ → ℤ) (v : Environment) (s : State) → Shows w p v s → (old : Bool) (e : TypedExpression) →
    type_in v old e ≡ Some types.Bool → is_linear v.fixed old e ≡ true → IsChoice w p (paths v old e) (value (state_of old s) e)
paths_mean w p v s h old e t l =
    let r = paths_test w p v s h old e t l in
    choice_of_test w p (paths v old e) r.truth_value (value (state_of old s) e) r.is r.test
