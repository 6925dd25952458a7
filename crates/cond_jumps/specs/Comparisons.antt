-- Comparisons of two sums, each one conjunction: the rows of their helpers, and a row of its own.
use Rattle.std.specs.Prelude.{ℕ, ◌+◌, ℤ, pos, negsuc, ◌+ℤ◌, ◌-ℤ◌, Bool, true, false, not, [], ◌∷◌, ◌++◌}
use Rattle.math_facts.specs.Terms.{opposite}
use Rattle.lin_rows.specs.declared.types.RowKind.TheVariants.{Le, Eq}
use Rattle.lin_rows.specs.Rows.{LinearRow}
use Rattle.lin_rows.specs.Sums.{row_of}
use Rattle.boogie_tree.specs.declared.tree.Op.{Op}
use Rattle.boogie_tree.specs.declared.tree.Op.TheVariants as ops
use Rattle.typed_tree.specs.Values.{truth}
use Rattle.cond_jumps.specs.Conjunctions.{Jumps, Plan, Just, Then, With}
use Rattle.cond_jumps.specs.Forms.{Linear, Linears, after}

-- `x - y <= k`, constants to the right
abbrev pub below_row : ℤ → Linear → Linear → LinearRow
below_row k x y = row_of (x.terms ++ opposite y.terms) Le ((k -ℤ x.constant) +ℤ y.constant)

-- `y - x <= k`
abbrev pub above_row : ℤ → Linear → Linear → LinearRow
above_row k x y = below_row k y x

-- `x - y = 0`
abbrev pub equal : Linear → Linear → LinearRow
equal x y = row_of (x.terms ++ opposite y.terms) Eq ((pos 0 -ℤ x.constant) +ℤ y.constant)

-- the conjunction of the helpers of two sums and a row over both
abbrev pub compared : (Linear → Linear → LinearRow) → Linears → Linears → Jumps
compared row a b n =
    let x = a n in
    let y = after a b n in
    record { rows = (x.rows ++ y.rows) ++ row x y ∷ []; helpers = x.helpers + y.helpers } ∷ []

-- no conjunction
abbrev pub no_jumps : Jumps
no_jumps n = []

-- the empty conjunction
abbrev pub always : Jumps
always n = record { rows = []; helpers = 0 } ∷ []

-- the column has the wanted truth value
abbrev pub truth_of_column : ℕ → Bool → Jumps
truth_of_column c want n = record { rows = row_of ((c, pos 1) ∷ []) Eq (truth want) ∷ []; helpers = 0 } ∷ []

-- a literal
abbrev pub literal : Bool → Bool → Plan
literal true true = Just always
literal true false = Just no_jumps
literal false true = Just no_jumps
literal false false = Just always

-- both have one truth value, where that is wanted, else both differ
abbrev pub alike : (Bool → Plan) → (Bool → Plan) → Bool → Plan
alike a b want = Then (With (a true) (b want)) (With (a false) (b (not want)))

-- both sums are equal, where that is wanted, else one is less or the other
abbrev pub equal_sums : Linears → Linears → Bool → Plan
equal_sums x y true = Just (compared equal x y)
equal_sums x y false = Then (Just (compared (below_row (negsuc 0)) x y)) (Just (compared (above_row (negsuc 0)) x y))

-- `==` of two truth values, or of two sums
abbrev pub equality : Bool → (Bool → Plan) → (Bool → Plan) → Linears → Linears → Bool → Plan
equality true a b x y want = alike a b want
equality false a b x y want = equal_sums x y want

-- An operation that is true, or false: of two conditions, or of two sums.
abbrev pub operation_plan : Op → Bool → (Bool → Plan) → (Bool → Plan) → Linears → Linears → Bool → Plan
operation_plan ops.Iff kind a b x y want = alike a b want
operation_plan ops.Implies kind a b x y true = Then (a false) (With (a true) (b true))
operation_plan ops.Implies kind a b x y false = With (a true) (b false)
operation_plan ops.And kind a b x y true = With (a true) (b true)
operation_plan ops.And kind a b x y false = Then (a false) (With (a true) (b false))
operation_plan ops.Or kind a b x y true = Then (a true) (With (a false) (b true))
operation_plan ops.Or kind a b x y false = With (a false) (b false)
operation_plan ops.Eq kind a b x y want = equality kind a b x y want
operation_plan ops.Ne kind a b x y want = equality kind a b x y (not want)
operation_plan ops.Lt kind a b x y true = Just (compared (below_row (negsuc 0)) x y)
operation_plan ops.Lt kind a b x y false = Just (compared (above_row (pos 0)) x y)
operation_plan ops.Le kind a b x y true = Just (compared (below_row (pos 0)) x y)
operation_plan ops.Le kind a b x y false = Just (compared (above_row (negsuc 0)) x y)
operation_plan ops.Gt kind a b x y true = Just (compared (above_row (negsuc 0)) x y)
operation_plan ops.Gt kind a b x y false = Just (compared (below_row (pos 0)) x y)
operation_plan ops.Ge kind a b x y true = Just (compared (above_row (pos 0)) x y)
operation_plan ops.Ge kind a b x y false = Just (compared (below_row (negsuc 0)) x y)
operation_plan op kind a b x y want = Just no_jumps
