-- Boolean expressions are 0 or 1, and division is Euclidean.
use Rattle.std.proofs.Common.{◌≡◌, ◌⊎◌, inl, inr, ℕ, zero, suc, ◌+◌, ◌*◌, ◌-◌, ◌/◌, ◌%◌, ◌<◌, Bool, true, false, not, ◌&&◌, ℤ, pos, negsuc, ◌+ℤ◌, ◌*ℤ◌, ◌-ℤ◌, ◌≤ℤ◌, ◌<ℤ◌, neg_ℤ, Option, None, Some, option_and_then, int_lt, int_le, if◌then◌else◌, refl, ap, sym, ◌∙◌, subst, arith}
use Rattle.std.specs.Option.{option_map}
use Rattle.std.specs.Int.{int_div_euclid, int_rem_euclid}
use Rattle.std.proofs.lemmas.Int.{ints}
use Rattle.boogie_tree.specs.declared.tree.Op.{Op}
use Rattle.boogie_tree.specs.declared.tree.Op.TheVariants.{Iff, Implies, And, Or, Eq, Ne, Lt, Le, Gt, Ge, Add, Sub, Mul, Div, Mod}
use Rattle.boogie_tree.specs.declared.tree.Ty.{Ty}
use Rattle.boogie_tree.specs.declared.tree.Ty.TheVariants as types
use Rattle.boogie_tree.specs.declared.tree.VarInfo.{VarInfo}
use Rattle.typed_tree.specs.TypedTree.{TypedExpression, Lit, Truth, Var, Old, Not, Neg, Bin}
use Rattle.typed_tree.specs.Scope.{Scope, variable_at}
use Rattle.typed_tree.specs.Typing.{type_of, operation_type, same_type, only}
use Rattle.typed_tree.specs.Values.{State, column_value, at_entry, truth, value_is_zero, same, operation_value, value}
use Rattle.typed_tree.specs.Laws.{IsTruth, BooleansHold}

truth_is : (b : Bool) → IsTruth (truth b)
truth_is true = inr refl
truth_is false = inl refl

either : (b : Bool) (x y : ℤ) → IsTruth x → IsTruth y → IsTruth (if b then x else y)
either true x y p q = p
either false x y p q = q

at_entry_hold : (c : Scope) (s : State) → BooleansHold c s → BooleansHold c (at_entry s)
at_entry_hold c s h = λ d v e t. ((h d v e t).1, (h d v e t).1)

variable_truth : (s : State) (c : Scope) (o : Option VarInfo) (z : ℤ) → ((v : VarInfo) → o ≡ Some v → v.ty ≡ types.Bool → IsTruth z) → option_map (λ v. v.ty) o ≡ Some types.Bool → IsTruth z
variable_truth s c None z h e = absurd (cc)
variable_truth s c (Some v) z h e = h v refl (let g : v.ty ≡ types.Bool = cc in g)

old_type : (b : Bool) (o : Option Ty) → (if b then o else None) ≡ Some types.Bool → o ≡ Some types.Bool
old_type true o e = e
old_type false o e = absurd (cc)

neg_type : (o : Option Ty) → option_and_then (only types.Int) o ≡ Some types.Bool → ⊥
neg_type None e = cc
neg_type (Some types.Int) e = cc
neg_type (Some types.Bool) e = cc

two_types : (op : Op) (o p : Option Ty) → option_and_then (λ t. option_and_then (operation_type op t) p) o ≡ Some types.Bool →
    (t : Ty) × (u : Ty) × (o ≡ Some t) × (p ≡ Some u) × (operation_type op t u ≡ Some types.Bool)
two_types op None p e = absurd (cc)
two_types op (Some t) None e = absurd (cc)
two_types op (Some t) (Some u) e = (t, u, refl, refl, e)

chosen : (b : Bool) (r : Ty) → (if b then Some r else None) ≡ Some types.Bool → (b ≡ true) × (r ≡ types.Bool)
chosen true r e = (refl, (cc))
chosen false r e = absurd (cc)

both_bool : (t u : Ty) → (same_type t u && same_type types.Bool t) ≡ true → u ≡ types.Bool
both_bool types.Int types.Int e = absurd (cc)
both_bool types.Int types.Bool e = refl
both_bool types.Bool types.Int e = absurd (cc)
both_bool types.Bool types.Bool e = refl

no_bool : (b : Bool) → (if b then Some types.Int else None) ≡ Some types.Bool → ⊥
no_bool true e = cc
no_bool false e = cc

truth_operation : (op : Op) (t u : Ty) (x y : ℤ) → operation_type op t u ≡ Some types.Bool → (u ≡ types.Bool → IsTruth y) → IsTruth (operation_value op x y)
truth_operation Iff t u x y e h = truth_is (same x y)
truth_operation Implies t u x y e h = either (value_is_zero x) (pos 1) y (inr refl) (h (both_bool t u (chosen (same_type t u && same_type types.Bool t) types.Bool e).0))
truth_operation And t u x y e h = either (value_is_zero x) (pos 0) y (inl refl) (h (both_bool t u (chosen (same_type t u && same_type types.Bool t) types.Bool e).0))
truth_operation Or t u x y e h = either (value_is_zero x) y (pos 1) (h (both_bool t u (chosen (same_type t u && same_type types.Bool t) types.Bool e).0)) (inr refl)
truth_operation Eq t u x y e h = truth_is (same x y)
truth_operation Ne t u x y e h = truth_is (not (same x y))
truth_operation Lt t u x y e h = truth_is (int_lt x y)
truth_operation Le t u x y e h = truth_is (int_le x y)
truth_operation Gt t u x y e h = truth_is (int_lt y x)
truth_operation Ge t u x y e h = truth_is (int_le y x)
truth_operation Add t u x y e h = absurd (no_bool (same_type t u && same_type types.Int t) e)
truth_operation Sub t u x y e h = absurd (no_bool (same_type t u && same_type types.Int t) e)
truth_operation Mul t u x y e h = absurd (no_bool (same_type t u && same_type types.Int t) e)
truth_operation Div t u x y e h = absurd (no_bool (same_type t u && same_type types.Int t) e)
truth_operation Mod t u x y e h = absurd (no_bool (same_type t u && same_type types.Int t) e)

pub truth_value : (c : Scope) (s : State) (e : TypedExpression) → BooleansHold c s → type_of c e ≡ Some types.Bool → IsTruth (value s e)
truth_value c s (Lit at n) h t = absurd (cc)
truth_value c s (Truth at b) h t = truth_is b
truth_value c s (Var at d) h t = variable_truth s c (variable_at c d) (column_value s d) (λ v k l. (h d v k l).0) t
truth_value c s (Old at e) h t = truth_value c (at_entry s) e (at_entry_hold c s h) (old_type c.old (type_of c e) t)
truth_value c s (Not at e) h t = truth_is (value_is_zero (value s e))
truth_value c s (Neg at e) h t = absurd (neg_type (type_of c e) t)
truth_value c s (Bin at op a b) h t =
    let p = two_types op (type_of c a) (type_of c b) t in
    truth_operation op p.0 p.1 (value s a) (value s b) p.4 (λ k. truth_value c s b h (p.3 ∙ ap Some k))
