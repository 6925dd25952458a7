-- Arguments as whole-number expressions.
use Rattle.std.specs.Prelude.{pos}
use Rattle.boogie_tree.specs.declared.tree.Op.TheVariants as ops
use Rattle.typed_tree.specs.TypedTree.{TypedExpression, Lit, Truth, Var, Old, Not, Neg, Bin}
use Rattle.typed_tree.specs.Values.{truth}

-- an argument as a whole number: a truth value is 0 or 1, and `!e` is 1 less e
abbrev pub whole : TypedExpression → TypedExpression
whole (Lit at n) = Lit at n
whole (Truth at b) = Lit at (truth b)
whole (Var at c) = Var at c
whole (Old at e) = Old at e
whole (Not at e) = Bin at ops.Sub (Lit at (pos 1)) (whole e)
whole (Neg at e) = Neg at e
whole (Bin at op a b) = Bin at op a b
