-- The rule of divisors alone.
use Rattle.std.specs.Prelude.{Bool, true, ◌&&◌}
use Rattle.boogie_tree.specs.declared.tree.Op.{Op}
use Rattle.boogie_tree.specs.declared.tree.Op.TheVariants.{Div, Mod}
use Rattle.typed_tree.specs.TypedTree.{TypedExpression, Old, Not, Neg, Bin}
use Rattle.typed_tree.specs.AffineForm.{divisor_of, is_divisor}

-- a divisor is a literal other than 0
abbrev pub is_divided_operation : Op → TypedExpression → Bool
is_divided_operation Div b = is_divisor (divisor_of b)
is_divided_operation Mod b = is_divisor (divisor_of b)
is_divided_operation op b = true

-- the rule of divisors holds in each part
abbrev pub is_divided : TypedExpression → Bool
is_divided (Old at e) = is_divided e
is_divided (Not at e) = is_divided e
is_divided (Neg at e) = is_divided e
is_divided (Bin at op a b) = is_divided a && (is_divided b && is_divided_operation op b)
is_divided e = true
