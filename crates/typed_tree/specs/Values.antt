-- The value of an expression in a state. Truth values are 0 and 1.
use Rattle.std.specs.Prelude.{ℕ, ℤ, pos, ◌+ℤ◌, ◌-ℤ◌, ◌*ℤ◌, neg_ℤ, unsigned_abs, Bool, true, false, not, nat_eq, int_lt, int_le, List, [], ◌∷◌, zero, suc, if◌then◌else◌}
use Rattle.std.specs.Int.{int_div_euclid, int_rem_euclid}
use Rattle.math_facts.specs.Fits.{Fits}
use Rattle.boogie_tree.specs.declared.tree.Op.{Op}
use Rattle.boogie_tree.specs.declared.tree.Op.TheVariants.{Iff, Implies, And, Or, Eq, Ne, Lt, Le, Gt, Ge, Add, Sub, Mul, Div, Mod}
use Rattle.boogie_tree.specs.declared.tree.Column.{Column}
use Rattle.boogie_tree.specs.declared.tree.Column.TheVariants as columns
use Rattle.typed_tree.specs.TypedTree.{TypedExpression, Lit, Truth, Var, Old, Not, Neg, Bin}

-- the constants and globals now and at the procedure's entry, and the locals
pub record State : Type 0 where
  pub globals : List ℤ
  pub old : List ℤ
  pub locals : List ℤ

-- the member number n, 0 past the end
abbrev pub member : List ℤ → ℕ → ℤ
member [] n = pos 0
member (z ∷ zs) zero = z
member (z ∷ zs) (suc n) = member zs n

abbrev pub column_value : State → Column → ℤ
column_value s (columns.Global n) = member s.globals n
column_value s (columns.Old n) = member s.old n
column_value s (columns.Local n) = member s.locals n

-- the state whose globals are those at the procedure's entry
abbrev pub at_entry : State → State
at_entry s = record s { globals = s.old }

abbrev pub truth : Bool → ℤ
truth true = pos 1
truth false = pos 0

abbrev pub value_is_zero : ℤ → Bool
value_is_zero z = nat_eq (unsigned_abs z) 0

abbrev pub same : ℤ → ℤ → Bool
same a b = value_is_zero (a -ℤ b)

-- `a div b`, Euclidean; 0 where b is 0
abbrev pub div_of : ℤ → ℤ → ℤ
div_of a b = if value_is_zero b then pos 0 else int_div_euclid a b

-- `a mod b`, Euclidean: from 0 to below the magnitude of b; 0 where b is 0
abbrev pub mod_of : ℤ → ℤ → ℤ
mod_of a b = if value_is_zero b then pos 0 else int_rem_euclid a b

-- what an operator makes of two values
abbrev pub operation_value : Op → ℤ → ℤ → ℤ
operation_value Iff a b = truth (same a b)
operation_value Implies a b = if value_is_zero a then pos 1 else b
operation_value And a b = if value_is_zero a then pos 0 else b
operation_value Or a b = if value_is_zero a then b else pos 1
operation_value Eq a b = truth (same a b)
operation_value Ne a b = truth (not (same a b))
operation_value Lt a b = truth (int_lt a b)
operation_value Le a b = truth (int_le a b)
operation_value Gt a b = truth (int_lt b a)
operation_value Ge a b = truth (int_le b a)
operation_value Add a b = a +ℤ b
operation_value Sub a b = a -ℤ b
operation_value Mul a b = a *ℤ b
operation_value Div a b = div_of a b
operation_value Mod a b = mod_of a b

-- the value of an expression
abbrev pub value : State → TypedExpression → ℤ
value s (Lit at n) = n
value s (Truth at b) = truth b
value s (Var at c) = column_value s c
value s (Old at e) = value (at_entry s) e
value s (Not at e) = truth (value_is_zero (value s e))
value s (Neg at e) = neg_ℤ (value s e)
value s (Bin at op a b) = operation_value op (value s a) (value s b)

-- the value of each part fits
abbrev pub PartsFit : State → TypedExpression → Type 0
PartsFit s (Lit at n) = Fits n
PartsFit s (Truth at b) = Unit {0}
PartsFit s (Var at c) = Fits (column_value s c)
PartsFit s (Old at e) = PartsFit (at_entry s) e
PartsFit s (Not at e) = PartsFit s e
PartsFit s (Neg at e) = PartsFit s e × Fits (neg_ℤ (value s e))
PartsFit s (Bin at op a b) = PartsFit s a × PartsFit s b × Fits (operation_value op (value s a) (value s b))
