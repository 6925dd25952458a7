-- When an expression keeps the typing rules.
use Rattle.std.specs.Prelude.{Bool, false, ◌&&◌}
use Rattle.std.specs.Option.{is_some}
use Rattle.boogie_tree.specs.declared.tree.Ty.{Ty}
use Rattle.boogie_tree.specs.declared.tree.Column.{Column}
use Rattle.typed_tree.specs.TypedTree.{TypedExpression}
use Rattle.typed_tree.specs.Scope.{Scope, fixed}
use Rattle.typed_tree.specs.Typing.{type_of, has_type}
use Rattle.typed_tree.specs.AffineForm.{forms_fit}
use Rattle.typed_tree.specs.Divided.{is_divided}

-- its divisors are literals other than 0, and the form of each part fits
abbrev pub is_arithmetic : (Column → Bool) → Bool → TypedExpression → Bool
is_arithmetic fixed old e = is_divided e && forms_fit fixed old e

-- the expression has a type, read at the procedure's entry or now, and keeps the rules of arithmetic
abbrev pub keeps_rules : Scope → Bool → TypedExpression → Bool
keeps_rules s old e = is_some (type_of s e) && is_arithmetic (fixed s) old e

-- the expression has that type and keeps the rules
abbrev pub is_right : Scope → Ty → TypedExpression → Bool
is_right s t e = has_type s t e && is_arithmetic (fixed s) false e
