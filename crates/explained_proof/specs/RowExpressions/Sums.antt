-- Sums of columns compared with a number, as a person would write them.
use Rattle.std.specs.Prelude.{ℕ, ℤ, pos, neg_ℤ, Bool, true, false, ◌&&◌, ◌||◌, not, nat_eq, int_lt, unsigned_abs, List, [], ◌∷◌, ◌++◌, length, Option, None, Some, if◌then◌else◌}
use Rattle.std.specs.Option.{option_map, option_zip}
use Rattle.std.specs.Ordering.{int_eq}
use Rattle.boogie_tree.specs.declared.tree.Op.{Op}
use Rattle.boogie_tree.specs.declared.tree.Op.TheVariants as ops
use Rattle.boogie_tree.specs.Tree.{Expression}
use Rattle.explained_proof.specs.BuiltExpressions.Building.{number, operation, chained}
use Rattle.explained_proof.specs.RowExpressions.Options.{in_front}
use Rattle.explained_proof.specs.RowExpressions.Scopes.{ClauseScope, number_said}

abbrev pub magnitude : ℤ → ℤ
magnitude z = pos (unsigned_abs z)

-- a column, taken so many times
abbrev pub times : ℤ → Expression → Expression
times z e = if int_eq z (pos 1) then e else operation ops.Mul (number z) e

-- a term, by its magnitude
abbrev pub term_said : ClauseScope → ℕ → ℤ → Option Expression
term_said s c z = option_map (times (magnitude z)) (number_said s c)

-- whether a term with that coefficient stands on the side of the positive ones, or on the other
abbrev pub is_on : Bool → ℤ → Bool
is_on true z = int_lt (pos 0) z
is_on false z = not (int_lt (pos 0) z)

-- the terms on a side
abbrev pub side : ClauseScope → Bool → List (ℕ × ℤ) → Option (List Expression)
side s b [] = Some []
side s b (t ∷ ts) = if is_on b t.1 then in_front (term_said s t.0 t.1) (side s b ts) else side s b ts

-- Beside so many operands on the left and on the right the number stands on the right, or its opposite on the left: on a side without operands, the right
-- one first, and else where it is positive.
abbrev pub stands_right : ℕ → ℕ → ℤ → Bool
stands_right l r b = nat_eq r 0 || (not (nat_eq l 0) && int_lt (pos 0) b)

abbrev pub stands_left : ℕ → ℕ → ℤ → Bool
stands_left l r b = not (nat_eq r 0) && (nat_eq l 0 || int_lt b (pos 0))

abbrev pub number_if : Bool → ℤ → List Expression
number_if true z = number z ∷ []
number_if false z = []

abbrev pub related : Op → Option Expression → Option Expression → Option Expression
related op a b = option_map (λ p. operation op p.0 p.1) (option_zip a b)

-- the comparison of operands with those on the other side and a number
abbrev pub compared : Op → ℤ → List Expression → List Expression → Option Expression
compared op b ls rs =
    related op (chained ops.Add (ls ++ number_if (stands_left (length ls) (length rs) b) (neg_ℤ b)))
    (chained ops.Add (rs ++ number_if (stands_right (length ls) (length rs) b) b))

abbrev pub comparison : Op → ℤ → Option (List Expression) → Option (List Expression) → Option Expression
comparison op b None rs = None
comparison op b (Some ls) None = None
comparison op b (Some ls) (Some rs) = compared op b ls rs

-- the first term is negative
abbrev pub begins_below : List (ℕ × ℤ) → Bool
begins_below [] = false
begins_below (t ∷ ts) = int_lt t.1 (pos 0)

abbrev pub comparing : Bool → Op
comparing true = ops.Eq
comparing false = ops.Le

-- That the terms are equal to the bound, or at most the bound. An equation whose first term is negative has its sides exchanged.
abbrev pub sum_said : ClauseScope → Bool → List (ℕ × ℤ) → ℤ → Option Expression
sum_said s equal ts b =
    if equal && begins_below ts then comparison ops.Eq (neg_ℤ b) (side s false ts) (side s true ts)
    else comparison (comparing equal) b (side s true ts) (side s false ts)
