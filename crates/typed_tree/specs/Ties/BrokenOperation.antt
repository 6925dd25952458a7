-- The fault of a divisor that breaks its rule.
use Rattle.std.specs.Prelude.{Bool, Option, None, Some}
use Rattle.std.specs.Option.{option_map}
use Rattle.typed_tree.specs.declared.fault.TypeFault.{TypeFault}
use Rattle.typed_tree.specs.declared.fault.TypeFault.TheVariants as fault
use Rattle.typed_tree.specs.TypedTree.{TypedExpression}
use Rattle.typed_tree.specs.AffineForm.{form_is_zero, divisor_of}
use Rattle.typed_tree.specs.BrokenRules.{expression_span}

-- whether the literal is 0, where the expression is one or one after a `-`
abbrev pub zero_literal : TypedExpression → Option Bool
zero_literal e = option_map form_is_zero (divisor_of e)

-- the fault of a divisor: at its place
abbrev pub divisor_fault : Option Bool → TypedExpression → TypeFault
divisor_fault None e = fault.NonLinear (expression_span e)
divisor_fault (Some zero) e = fault.ZeroDivisor (expression_span e)
