-- Which typing rule an expression breaks, and where.
use Rattle.std.specs.Prelude.{◌≡◌, ℤ, Bool, true, false, None, Some}
use Rattle.boogie_tree.specs.declared.span.Span.{Span}
use Rattle.boogie_tree.specs.declared.tree.Op.{Op}
use Rattle.boogie_tree.specs.declared.tree.Op.TheVariants.{Div, Mod}
use Rattle.boogie_tree.specs.declared.tree.Ty.{Ty}
use Rattle.boogie_tree.specs.declared.tree.Ty.TheVariants as types
use Rattle.boogie_tree.specs.declared.tree.Column.{Column}
use Rattle.typed_tree.specs.declared.fault.TypeFault.{TypeFault}
use Rattle.typed_tree.specs.declared.fault.TypeFault.TheVariants as fault
use Rattle.typed_tree.specs.TypedTree.{TypedExpression, Lit, Truth, Var, Old, Not, Neg, Bin}
use Rattle.typed_tree.specs.Scope.{Scope, variable_at, fixed}
use Rattle.typed_tree.specs.Typing.{type_of, operation_type}
use Rattle.typed_tree.specs.AffineForm.{form, form_fits, divisor_of, form_is_zero, fits}

-- where an expression stands
abbrev pub expression_span : TypedExpression → Span
expression_span (Lit at n) = at
expression_span (Truth at b) = at
expression_span (Var at c) = at
expression_span (Old at e) = at
expression_span (Not at e) = at
expression_span (Neg at e) = at
expression_span (Bin at op a b) = at

abbrev pub is_division : Op → Bool
is_division Div = true
is_division Mod = true
is_division op = false

-- A rule that the fault names is broken where it says: by the expression itself or a part of it, read at the procedure's entry or now.
pub data IsBroken (s : Scope) : Bool → TypedExpression → TypeFault → Type 0 where
  -- parts
  in_old : (old : Bool) (at : Span) (e : TypedExpression) (f : TypeFault) → IsBroken s true e f → IsBroken s old (Old at e) f
  in_not : (old : Bool) (at : Span) (e : TypedExpression) (f : TypeFault) → IsBroken s old e f → IsBroken s old (Not at e) f
  in_neg : (old : Bool) (at : Span) (e : TypedExpression) (f : TypeFault) → IsBroken s old e f → IsBroken s old (Neg at e) f
  in_left : (old : Bool) (at : Span) (op : Op) (a b : TypedExpression) (f : TypeFault) → IsBroken s old a f → IsBroken s old (Bin at op a b) f
  in_right : (old : Bool) (at : Span) (op : Op) (a b : TypedExpression) (f : TypeFault) → IsBroken s old b f → IsBroken s old (Bin at op a b) f
  -- a variable that is not seen
  unseen : (old : Bool) (at : Span) (c : Column) → variable_at s c ≡ None → IsBroken s old (Var at c) (fault.Unknown at)
  -- `old` where it may not stand
  misplaced : (old : Bool) (at : Span) (e : TypedExpression) → s.old ≡ false → IsBroken s old (Old at e) (fault.Mismatch at)
  -- operands of other types than the operator takes
  no_truth : (old : Bool) (at : Span) (e : TypedExpression) → type_of s e ≡ Some types.Int → IsBroken s old (Not at e) (fault.Mismatch at)
  no_number : (old : Bool) (at : Span) (e : TypedExpression) → type_of s e ≡ Some types.Bool → IsBroken s old (Neg at e) (fault.Mismatch at)
  ill_typed : (old : Bool) (at : Span) (op : Op) (a b : TypedExpression) (t u : Ty) → type_of s a ≡ Some t → type_of s b ≡ Some u → operation_type op t u ≡ None → IsBroken s old (Bin at op a b) (fault.Mismatch at)
  -- divisors that are 0, or no literal
  zero_divisor : (old : Bool) (at : Span) (op : Op) (a b : TypedExpression) (k : ℤ) → is_division op ≡ true → divisor_of b ≡ Some k → form_is_zero k ≡ true → IsBroken s old (Bin at op a b) (fault.ZeroDivisor (expression_span b))
  no_literal : (old : Bool) (at : Span) (op : Op) (a b : TypedExpression) → is_division op ≡ true → divisor_of b ≡ None → IsBroken s old (Bin at op a b) (fault.NonLinear (expression_span b))
  -- a form with a number that does not fit
  big_literal : (old : Bool) (at : Span) (n : ℤ) → fits n ≡ false → IsBroken s old (Lit at n) (fault.TooBig at)
  big_opposite : (old : Bool) (at : Span) (e : TypedExpression) → form_fits (form (fixed s) old (Neg at e)) ≡ false → IsBroken s old (Neg at e) (fault.TooBig at)
  big_operation : (old : Bool) (at : Span) (op : Op) (a b : TypedExpression) → form_fits (form (fixed s) old (Bin at op a b)) ≡ false → IsBroken s old (Bin at op a b) (fault.TooBig at)

-- The fault of an expression that is read now: a broken rule, or want of memory.
abbrev pub IsFault : Scope → TypedExpression → TypeFault → Type 0
IsFault s e fault.Memory = Unit {0}
IsFault s e f = IsBroken s false e f
