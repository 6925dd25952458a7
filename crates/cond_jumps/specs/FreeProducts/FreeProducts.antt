-- The free products of an expression, and the expression with a local in the place of each.
use Rattle.std.specs.Prelude.{ℕ, ◌+◌, pos, Bool, true, false, not, ◌||◌, List, [], ◌∷◌, ◌++◌, length, if◌then◌else◌}
use Rattle.boogie_tree.specs.declared.span.Span.{Span}
use Rattle.boogie_tree.specs.declared.tree.Op.{Op}
use Rattle.boogie_tree.specs.declared.tree.Op.TheVariants as ops
use Rattle.boogie_tree.specs.declared.tree.Column.{Column}
use Rattle.boogie_tree.specs.declared.tree.Column.TheVariants as columns
use Rattle.typed_tree.specs.TypedTree.{TypedExpression, Lit, Truth, Var, Old, Not, Neg, Bin}
use Rattle.typed_tree.specs.AffineForm.{form, is_constant}

-- a product is free where neither factor has a constant form
abbrev pub is_free : (Column → Bool) → Bool → Op → TypedExpression → TypedExpression → Bool
is_free fixed old ops.Mul a b = not (is_constant (form fixed old a) || is_constant (form fixed old b))
is_free fixed old op a b = false

-- an expression as it is read at the procedure's entry or now
abbrev pub as_read : Bool → Span → TypedExpression → TypedExpression
as_read true at e = Old at e
as_read false at e = e

-- The free products that stand in no other, in order of occurrence, each as it is read. What stands inside one, a division too, is none of these.
abbrev pub free_products : (Column → Bool) → Bool → TypedExpression → List TypedExpression
free_products fixed old (Lit at n) = []
free_products fixed old (Truth at b) = []
free_products fixed old (Var at c) = []
free_products fixed old (Old at e) = free_products fixed true e
free_products fixed old (Not at e) = free_products fixed old e
free_products fixed old (Neg at e) = free_products fixed old e
free_products fixed old (Bin at op a b) =
    if is_free fixed old op a b then as_read old at (Bin at op a b) ∷ [] else free_products fixed old a ++ free_products fixed old b

-- the local number n divided by 1: an atom, as the product is, with a helper in its turn among those of the divisions
abbrev pub stand_in : Span → ℕ → TypedExpression
stand_in at n = Bin at ops.Div (Var at (columns.Local n)) (Lit at (pos 1))

-- the expression in which the locals from number n on stand in the places of the products
abbrev pub freed : (Column → Bool) → ℕ → Bool → TypedExpression → TypedExpression
freed fixed n old (Lit at k) = Lit at k
freed fixed n old (Truth at b) = Truth at b
freed fixed n old (Var at c) = Var at c
freed fixed n old (Old at e) = Old at (freed fixed n true e)
freed fixed n old (Not at e) = Not at (freed fixed n old e)
freed fixed n old (Neg at e) = Neg at (freed fixed n old e)
freed fixed n old (Bin at op a b) =
    if is_free fixed old op a b then stand_in at n
    else Bin at op (freed fixed n old a) (freed fixed (n + length (free_products fixed old a)) old b)

-- the products of all of a list of expressions that are read now, one expression after the other
abbrev pub all_free_products : (Column → Bool) → List TypedExpression → List TypedExpression
all_free_products fixed [] = []
all_free_products fixed (e ∷ es) = free_products fixed false e ++ all_free_products fixed es

abbrev pub all_freed : (Column → Bool) → ℕ → List TypedExpression → List TypedExpression
all_freed fixed n [] = []
all_freed fixed n (e ∷ es) = freed fixed n false e ∷ all_freed fixed (n + length (free_products fixed false e)) es
