-- Conditions and assignments as lists of conjunctions of rows, whatever stands for the columns.
use Rattle.std.specs.Prelude.{ℕ, suc, ℤ, pos, ◌+ℤ◌, ◌-ℤ◌, ◌*ℤ◌, neg_ℤ, Bool, true, false, not, List, [], ◌∷◌, Option, None, Some}
use Rattle.boogie_tree.specs.declared.tree.Op.{Op}
use Rattle.boogie_tree.specs.declared.tree.Op.TheVariants as ops
use Rattle.boogie_tree.specs.declared.tree.Ty.TheVariants as types
use Rattle.typed_tree.specs.TypedTree.{TypedExpression, Lit, Truth, Var, Old, Not, Neg, Bin}
use Rattle.typed_tree.specs.Typing.{is_some_of, result_type}
use Rattle.typed_tree.specs.AffineForm.{divisor_of, read_at}
use Rattle.cond_jumps.specs.Conjunctions.{Plan, Just, Then, With}
use Rattle.cond_jumps.specs.Forms.{Linears, linear_number, column, linear_negated, linear_plus, linear_minus, linear_times, linear_divided, remaining}
use Rattle.cond_jumps.specs.Comparisons.{compared, equal, no_jumps, always, truth_of_column, literal, operation_plan}
use Rattle.cond_jumps.specs.Environments.{Environment}

-- what an operator makes of the constants of two affine forms
abbrev pub constant_operation : Op → ℤ → ℤ → ℤ
constant_operation ops.Add k l = k +ℤ l
constant_operation ops.Sub k l = k -ℤ l
constant_operation ops.Mul k l = k *ℤ l
constant_operation op k l = pos 0

-- the constant of the affine form of a whole-number expression
abbrev pub constant_of : TypedExpression → ℤ
constant_of (Lit at n) = n
constant_of (Truth at b) = pos 0
constant_of (Var at c) = pos 0
constant_of (Old at e) = constant_of e
constant_of (Not at e) = pos 0
constant_of (Neg at e) = neg_ℤ (constant_of e)
constant_of (Bin at op a b) = constant_operation op (constant_of a) (constant_of b)

-- a sum that is divided; 0 where there is no divisor
abbrev pub linear_quotient : (ℤ → Linears → Linears) → Option ℤ → Linears → Linears
linear_quotient part None a = linear_number (pos 0)
linear_quotient part (Some k) a = part k a

-- what an operator makes of two sums whose forms have the constants k and l, and of which the second may be a divisor;
-- 0 where it makes no whole number
abbrev pub arithmetic : Op → ℤ → ℤ → Option ℤ → Linears → Linears → Linears
arithmetic ops.Add k l d a b = linear_plus a b
arithmetic ops.Sub k l d a b = linear_minus a b
arithmetic ops.Mul k l d a b = linear_times k l a b
arithmetic ops.Div k l d a b = linear_quotient linear_divided d a
arithmetic ops.Mod k l d a b = linear_quotient remaining d a
arithmetic op k l d a b = linear_number (pos 0)

-- the sum of a whole-number expression that is read at the procedure's entry or now
abbrev pub linear : Environment → Bool → TypedExpression → Linears
linear v old (Lit at n) = linear_number n
linear v old (Truth at b) = linear_number (pos 0)
linear v old (Var at c) = v.sum (read_at old c)
linear v old (Old at e) = linear v true e
linear v old (Not at e) = linear_number (pos 0)
linear v old (Neg at e) = linear_negated (linear v old e)
linear v old (Bin at op a b) = arithmetic op (constant_of a) (constant_of b) (divisor_of b) (linear v old a) (linear v old b)

-- whether an expression that has a type is a truth value
abbrev pub is_truth : Environment → Bool → TypedExpression → Bool
is_truth v old (Lit at n) = false
is_truth v old (Truth at b) = true
is_truth v old (Var at c) = is_some_of types.Bool (v.type (read_at old c))
is_truth v old (Old at e) = is_truth v true e
is_truth v old (Not at e) = true
is_truth v old (Neg at e) = false
is_truth v old (Bin at op a b) = is_some_of types.Bool (Some (result_type op))

-- when a condition, read at the procedure's entry or now, has the wanted value: T(e) and F(e)
abbrev pub paths : Environment → Bool → TypedExpression → Bool → Plan
paths v old (Lit at n) want = Just no_jumps
paths v old (Truth at b) want = literal b want
paths v old (Var at c) want = v.plan (read_at old c) want
paths v old (Old at e) want = paths v true e want
paths v old (Not at e) want = paths v old e (not want)
paths v old (Neg at e) want = Just no_jumps
paths v old (Bin at op a b) want =
    operation_plan op (is_truth v old a) (paths v old a) (paths v old b) (linear v old a) (linear v old b) want

-- a column j gets a truth value, with the plans that follow it, or a sum
abbrev pub gets : Bool → (Bool → Plan) → Linears → ℕ → Plan
gets true a x j = Then (With (a true) (Just (truth_of_column j true))) (With (a false) (Just (truth_of_column j false)))
gets false a x j = Just (compared equal (column j) x)

-- the columns from j on get the values of the expressions
abbrev pub assigns : Environment → ℕ → List TypedExpression → Plan
assigns v j [] = Just always
assigns v j (e ∷ es) = With (gets (is_truth v false e) (paths v false e) (linear v false e) j) (assigns v (suc j) es)
