-- When the value of an expression takes no default.
use Rattle.std.specs.Prelude.{◌≡◌, ◌<◌, ℤ, false, length}
use Rattle.boogie_tree.specs.declared.tree.Op.{Op}
use Rattle.boogie_tree.specs.declared.tree.Op.TheVariants.{Div, Mod}
use Rattle.boogie_tree.specs.declared.tree.Column.{Column}
use Rattle.boogie_tree.specs.declared.tree.Column.TheVariants as columns
use Rattle.typed_tree.specs.TypedTree.{TypedExpression, Lit, Truth, Var, Old, Not, Neg, Bin}
use Rattle.typed_tree.specs.Values.{State, at_entry, value_is_zero, value}

-- the column is there
abbrev pub HasColumn : State → Column → Type 0
HasColumn s (columns.Global n) = n < length s.globals
HasColumn s (columns.Old n) = n < length s.old
HasColumn s (columns.Local n) = n < length s.locals

-- a divisor is not 0
abbrev pub Divides : Op → ℤ → Type 0
Divides Div k = value_is_zero k ≡ false
Divides Mod k = value_is_zero k ≡ false
Divides op k = Unit {0}

-- Each column that the expression reads is there, and no divisor is 0.
abbrev pub Reads : State → TypedExpression → Type 0
Reads s (Lit at n) = Unit {0}
Reads s (Truth at b) = Unit {0}
Reads s (Var at c) = HasColumn s c
Reads s (Old at e) = Reads (at_entry s) e
Reads s (Not at e) = Reads s e
Reads s (Neg at e) = Reads s e
Reads s (Bin at op a b) = Reads s a × Reads s b × Divides op (value s b)
