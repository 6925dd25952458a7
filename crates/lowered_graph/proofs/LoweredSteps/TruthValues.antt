-- Boolean expressions are 0 or 1 wherever what stands for the columns is.
use Rattle.std.proofs.Common.{◌≡◌, inl, inr, ℕ, zero, suc, Bool, true, false, not, ◌&&◌, ℤ, pos, List, [], ◌∷◌, map, None, Some, int_lt, int_le, if◌then◌else◌, refl, ap, sym, ◌∙◌, subst}
use Rattle.std.specs.Prelude.{slice_get}
use Rattle.std.specs.Option.{option_map}
use Rattle.boogie_tree.specs.declared.tree.Op.{Op}
use Rattle.boogie_tree.specs.declared.tree.Op.TheVariants.{Iff, Implies, And, Or, Eq, Ne, Lt, Le, Gt, Ge, Add, Sub, Mul, Div, Mod}
use Rattle.boogie_tree.specs.declared.tree.Ty.{Ty}
use Rattle.boogie_tree.specs.declared.tree.Ty.TheVariants as types
use Rattle.boogie_tree.specs.declared.tree.Column.{Column}
use Rattle.boogie_tree.specs.declared.tree.Column.TheVariants as columns
use Rattle.typed_tree.specs.TypedTree.{TypedExpression, Lit, Truth, Var, Old, Not, Neg, Bin}
use Rattle.typed_tree.specs.Typing.{same_type, operation_type, result_type}
use Rattle.typed_tree.specs.Values.{State, column_value, member, value, truth, value_is_zero, same, operation_value}
use Rattle.typed_tree.specs.AffineForm.{read_at}
use Rattle.typed_tree.specs.Laws.{IsTruth, state_of}
use Rattle.letter_acts.specs.Frames.{Columns}
use Rattle.cond_jumps.specs.Environments.{Environment, type_in}
use Rattle.cond_jumps.specs.Frames.{frame_environment, IsShown}
use Rattle.cond_jumps.specs.Passing.{Passed, standing_type, standing_environment, passed, passed_state}
use Rattle.cond_jumps.proofs.TypeLemmas.{AreTyped, operands, only_is, not_both, operation_result, read_value, entry_of}
use Rattle.cond_jumps.proofs.FrameLemmas.{frame_shows}

-- ---- truth values

truth_is : (b : Bool) → IsTruth (truth b)
truth_is true = inr refl
truth_is false = inl refl

either : (b : Bool) (x y : ℤ) → IsTruth x → IsTruth y → IsTruth (if b then x else y)
either true x y p q = p
either false x y p q = q

both_bool : (t u r : Ty) → (if same_type t u && same_type types.Bool t then Some types.Bool else None) ≡ Some r → u ≡ types.Bool
both_bool types.Int types.Int r e = absurd (cc)
both_bool types.Int types.Bool r e = refl
both_bool types.Bool types.Int r e = absurd (cc)
both_bool types.Bool types.Bool r e = refl

whole_is_none : (op : Op) (t u : Ty) → result_type op ≡ types.Int → operation_type op t u ≡ Some types.Bool → ⊥
whole_is_none op t u e h = not_both (sym e ∙ sym (operation_result op t u types.Bool h))

truth_operation : (op : Op) (t u : Ty) (x y : ℤ) → operation_type op t u ≡ Some types.Bool → (u ≡ types.Bool → IsTruth y) → IsTruth (operation_value op x y)
truth_operation Iff t u x y e h = truth_is (same x y)
truth_operation Implies t u x y e h = either (value_is_zero x) (pos 1) y (inr refl) (h (both_bool t u types.Bool e))
truth_operation And t u x y e h = either (value_is_zero x) (pos 0) y (inl refl) (h (both_bool t u types.Bool e))
truth_operation Or t u x y e h = either (value_is_zero x) y (pos 1) (h (both_bool t u types.Bool e)) (inr refl)
truth_operation Eq t u x y e h = truth_is (same x y)
truth_operation Ne t u x y e h = truth_is (not (same x y))
truth_operation Lt t u x y e h = truth_is (int_lt x y)
truth_operation Le t u x y e h = truth_is (int_le x y)
truth_operation Gt t u x y e h = truth_is (int_lt y x)
truth_operation Ge t u x y e h = truth_is (int_le y x)
truth_operation Add t u x y e h = absurd (whole_is_none Add t u refl e)
truth_operation Sub t u x y e h = absurd (whole_is_none Sub t u refl e)
truth_operation Mul t u x y e h = absurd (whole_is_none Mul t u refl e)
truth_operation Div t u x y e h = absurd (whole_is_none Div t u refl e)
truth_operation Mod t u x y e h = absurd (whole_is_none Mod t u refl e)

-- each boolean column has a truth value
abbrev pub BooleansAreTruths : Environment → State → Type 0
BooleansAreTruths v s = (c : Column) → v.type c ≡ Some types.Bool → IsTruth (column_value s c)

pub bool_is_truth : (v : Environment) (s : State) → BooleansAreTruths v s → (old : Bool) (e : TypedExpression) → type_in v old e ≡ Some types.Bool → IsTruth (value (state_of old s) e)
bool_is_truth v s h old (Lit at n) t = absurd (cc)
bool_is_truth v s h old (Truth at b) t = truth_is b
bool_is_truth v s h old (Var at c) t = subst IsTruth (sym (read_value old s c)) (h (read_at old c) t)
bool_is_truth v s h old (Old at e) t = subst (λ (u : State). IsTruth (value u e)) (sym (entry_of old s)) (bool_is_truth v s h true e t)
bool_is_truth v s h old (Not at e) t = truth_is (value_is_zero (value (state_of old s) e))
bool_is_truth v s h old (Neg at e) t = absurd (not_both (sym (only_is types.Int (type_in v old e) types.Bool t).1))
bool_is_truth v s h old (Bin at op a b) t =
    let o : AreTyped v old op a b types.Bool = operands v old op a b types.Bool t in
    truth_operation op o.first o.second (value (state_of old s) a) (value (state_of old s) b) o.operation_is
    (λ k. bool_is_truth v s h old b (o.second_is ∙ ap Some k))

-- in a frame that is shown
pub shown_truths : (frame : Columns) (s : State) (values : List ℤ) → IsShown frame s values → BooleansAreTruths (frame_environment frame) s
shown_truths frame s values h = λ c t. ((frame_shows frame s values h).choices c t).truth_value

argument_truth : (v : Environment) (s : State) (args : List TypedExpression) (n : ℕ) → BooleansAreTruths v s → standing_type v (option_map Passed (slice_get args n)) ≡ Some types.Bool →
    IsTruth (member (map (value s) args) n)
argument_truth v s [] n h t = absurd (cc)
argument_truth v s (a ∷ es) zero h t = bool_is_truth v s h false a t
argument_truth v s (a ∷ es) (suc n) h t = argument_truth v s es n h t

-- with arguments for the parameters
pub passed_truths : (v : Environment) (s : State) (args : List TypedExpression) → BooleansAreTruths v s → BooleansAreTruths (standing_environment v (passed args)) (passed_state s args)
passed_truths v s args h (columns.Global n) t = h (columns.Global n) t
passed_truths v s args h (columns.Old n) t = h (columns.Old n) t
passed_truths v s args h (columns.Local n) t = argument_truth v s args n h t
