-- What stands for a column: in a frame the column's number, and for a parameter of a called procedure its argument.
use Rattle.std.specs.Prelude.{Bool, true, Option, Some, option_and_then}
use Rattle.boogie_tree.specs.declared.tree.Ty.{Ty}
use Rattle.boogie_tree.specs.declared.tree.Ty.TheVariants as types
use Rattle.boogie_tree.specs.declared.tree.Column.{Column}
use Rattle.typed_tree.specs.TypedTree.{TypedExpression, Lit, Truth, Var, Old, Not, Neg, Bin}
use Rattle.typed_tree.specs.Typing.{operation_type, only}
use Rattle.typed_tree.specs.AffineForm.{read_at}
use Rattle.cond_jumps.specs.Conjunctions.{Plan}
use Rattle.cond_jumps.specs.Forms.{Linears}

-- of each column its type, None where nothing stands for it, and whether it is that of a constant; the sum that stands for a whole number; and
-- when a truth value is as wanted
pub record Environment : Type 0 where
  pub type : Column → Option Ty
  pub fixed : Column → Bool
  pub sum : Column → Linears
  pub plan : Column → Bool → Plan

-- The type of an expression that is read at the procedure's entry or now; None where its operators' types are broken, or
-- where nothing stands for a column that it reads.
abbrev pub type_in : Environment → Bool → TypedExpression → Option Ty
type_in v old (Lit at n) = Some types.Int
type_in v old (Truth at b) = Some types.Bool
type_in v old (Var at c) = v.type (read_at old c)
type_in v old (Old at e) = type_in v true e
type_in v old (Not at e) = option_and_then (only types.Bool) (type_in v old e)
type_in v old (Neg at e) = option_and_then (only types.Int) (type_in v old e)
type_in v old (Bin at op a b) = option_and_then (λ t. option_and_then (operation_type op t) (type_in v old b)) (type_in v old a)
