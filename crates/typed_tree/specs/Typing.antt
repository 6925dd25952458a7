-- The types of expressions.
use Rattle.std.specs.Prelude.{Bool, true, false, Option, None, Some, if◌then◌else◌, option_and_then, ◌&&◌}
use Rattle.std.specs.Option.{option_map}
use Rattle.boogie_tree.specs.declared.tree.Op.{Op}
use Rattle.boogie_tree.specs.declared.tree.Op.TheVariants.{Iff, Implies, And, Or, Eq, Ne, Add, Sub, Mul, Div, Mod}
use Rattle.boogie_tree.specs.declared.tree.Ty.{Ty}
use Rattle.boogie_tree.specs.declared.tree.Ty.TheVariants as types
use Rattle.typed_tree.specs.TypedTree.{TypedExpression, Lit, Truth, Var, Old, Not, Neg, Bin}
use Rattle.typed_tree.specs.Scope.{Scope, variable_at}

abbrev pub same_type : Ty → Ty → Bool
same_type types.Int types.Int = true
same_type types.Int types.Bool = false
same_type types.Bool types.Int = false
same_type types.Bool types.Bool = true

-- the type that an operator asks of both operands; none where any two of one type serve
abbrev pub operand_type : Op → Option Ty
operand_type Iff = Some types.Bool
operand_type Implies = Some types.Bool
operand_type And = Some types.Bool
operand_type Or = Some types.Bool
operand_type Eq = None
operand_type Ne = None
operand_type op = Some types.Int

-- the type of what an operator gives
abbrev pub result_type : Op → Ty
result_type Add = types.Int
result_type Sub = types.Int
result_type Mul = types.Int
result_type Div = types.Int
result_type Mod = types.Int
result_type op = types.Bool

-- the type, where it is the wanted one, or none is wanted
abbrev pub if_wanted : Option Ty → Ty → Bool
if_wanted None t = true
if_wanted (Some wanted) t = same_type wanted t

-- the type of an operation on operands of these types
abbrev pub operation_type : Op → Ty → Ty → Option Ty
operation_type op a b = if same_type a b && if_wanted (operand_type op) a then Some (result_type op) else None

-- that type, where the operand has it too
abbrev pub only : Ty → Ty → Option Ty
only wanted t = if same_type wanted t then Some t else None

-- the type of an expression; none where the rules on types, on `old` or on what is seen are broken
abbrev pub type_of : Scope → TypedExpression → Option Ty
type_of s (Lit at n) = Some types.Int
type_of s (Truth at b) = Some types.Bool
type_of s (Var at c) = option_map (λ v. v.ty) (variable_at s c)
type_of s (Old at e) = if s.old then type_of s e else None
type_of s (Not at e) = option_and_then (only types.Bool) (type_of s e)
type_of s (Neg at e) = option_and_then (only types.Int) (type_of s e)
type_of s (Bin at op a b) = option_and_then (λ t. option_and_then (operation_type op t) (type_of s b)) (type_of s a)

abbrev pub is_some_of : Ty → Option Ty → Bool
is_some_of wanted None = false
is_some_of wanted (Some t) = same_type wanted t

-- the expression has that type
abbrev pub has_type : Scope → Ty → TypedExpression → Bool
has_type s t e = is_some_of t (type_of s e)
