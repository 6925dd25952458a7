-- Conditions of called procedures written over numbered columns: the column with number i is the local with that number.
use Rattle.std.specs.Prelude.{pos, Bool, true, false, Option, Some, if◌then◌else◌}
use Rattle.boogie_tree.specs.declared.span.Span.{Span}
use Rattle.boogie_tree.specs.declared.tree.Op.{Op}
use Rattle.boogie_tree.specs.declared.tree.Op.TheVariants as ops
use Rattle.boogie_tree.specs.declared.tree.Ty.{Ty}
use Rattle.boogie_tree.specs.declared.tree.Ty.TheVariants as types
use Rattle.boogie_tree.specs.declared.tree.Column.{Column}
use Rattle.typed_tree.specs.TypedTree.{TypedExpression, Lit, Truth, Var, Old, Not, Neg, Bin}
use Rattle.typed_tree.specs.Typing.{is_some_of, result_type}
use Rattle.typed_tree.specs.AffineForm.{read_at}

-- what stands for a column: an expression over numbered columns, and the type that the column has
pub record Stand : Type 0 where
  pub expression : TypedExpression
  pub type : Option Ty

-- the constant of the affine form, as an expression
abbrev pub constant_operation : Span → Op → TypedExpression → TypedExpression → TypedExpression
constant_operation at ops.Add a b = Bin at ops.Add a b
constant_operation at ops.Sub a b = Bin at ops.Sub a b
constant_operation at ops.Mul a b = Bin at ops.Mul a b
constant_operation at op a b = Lit at (pos 0)

abbrev pub constant_part : TypedExpression → TypedExpression
constant_part (Lit at n) = Lit at n
constant_part (Truth at b) = Lit at (pos 0)
constant_part (Var at c) = Lit at (pos 0)
constant_part (Old at e) = constant_part e
constant_part (Not at e) = Lit at (pos 0)
constant_part (Neg at e) = Neg at (constant_part e)
constant_part (Bin at op a b) = constant_operation at op (constant_part a) (constant_part b)

-- The product of x and y, which stand for a and b. With k and l the constants of a and b as they are written it is (x - k)*l + k*y, whatever
-- constants x and y have.
abbrev pub product : Span → TypedExpression → TypedExpression → TypedExpression → TypedExpression → TypedExpression
product at a b x y =
    Bin at ops.Add (Bin at ops.Mul (Bin at ops.Sub x (constant_part a)) (constant_part b)) (Bin at ops.Mul (constant_part a) y)

-- a literal, or a literal after one `-`
abbrev pub is_divisor_form : TypedExpression → Bool
is_divisor_form (Lit at n) = true
is_divisor_form (Neg at (Lit at1 n)) = true
is_divisor_form e = false

-- x divided by b, where b is a divisor; else 0
abbrev pub division : Span → Op → TypedExpression → TypedExpression → TypedExpression
division at op x b = if is_divisor_form b then Bin at op x b else Lit at (pos 0)

-- x and y, which are truth values, are equal or differ
abbrev pub truth_equality : Span → Op → TypedExpression → TypedExpression → TypedExpression
truth_equality at ops.Ne x y = Not at (Bin at ops.Iff x y)
truth_equality at op x y = Bin at ops.Iff x y

-- an equality or inequality of truth values, or else of whole numbers, which 0 + x is whatever stands in x
abbrev pub equality : Span → Op → Bool → TypedExpression → TypedExpression → TypedExpression
equality at op true x y = truth_equality at op x y
equality at op false x y = Bin at op (Bin at ops.Add (Lit at (pos 0)) x) y

-- an operation on a and b, for which x and y stand; `truths` says whether a is a truth value
abbrev pub rebuilt : Span → Op → Bool → TypedExpression → TypedExpression → TypedExpression → TypedExpression → TypedExpression
rebuilt at ops.Mul truths a b x y = product at a b x y
rebuilt at ops.Div truths a b x y = division at ops.Div x b
rebuilt at ops.Mod truths a b x y = division at ops.Mod x b
rebuilt at ops.Eq truths a b x y = equality at ops.Eq truths x y
rebuilt at ops.Ne truths a b x y = equality at ops.Ne truths x y
rebuilt at op truths a b x y = Bin at op x y

-- whether an expression that has a type is a truth value
abbrev pub is_truth_by : (Column → Stand) → Bool → TypedExpression → Bool
is_truth_by stands old (Lit at n) = false
is_truth_by stands old (Truth at b) = true
is_truth_by stands old (Var at c) = is_some_of types.Bool (stands (read_at old c)).type
is_truth_by stands old (Old at e) = is_truth_by stands true e
is_truth_by stands old (Not at e) = true
is_truth_by stands old (Neg at e) = false
is_truth_by stands old (Bin at op a b) = is_some_of types.Bool (Some (result_type op))

-- an expression that is read at the procedure's entry or now, with what stands for its columns
abbrev pub read_by : (Column → Stand) → Bool → TypedExpression → TypedExpression
read_by stands old (Lit at n) = Lit at n
read_by stands old (Truth at b) = Truth at b
read_by stands old (Var at c) = (stands (read_at old c)).expression
read_by stands old (Old at e) = read_by stands true e
read_by stands old (Not at e) = Not at (read_by stands old e)
read_by stands old (Neg at e) = Neg at (read_by stands old e)
read_by stands old (Bin at op a b) = rebuilt at op (is_truth_by stands old a) a b (read_by stands old a) (read_by stands old b)
