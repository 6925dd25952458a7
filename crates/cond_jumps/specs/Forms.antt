-- Whole-number expressions as sums over columns. Each `div` and `mod` has a helper column, with two rows.
use Rattle.std.specs.Prelude.{ℕ, ◌+◌, ℤ, pos, ◌+ℤ◌, ◌-ℤ◌, ◌*ℤ◌, neg_ℤ, unsigned_abs, List, [], ◌∷◌, ◌++◌}
use Rattle.math_facts.specs.Terms.{dot, scaled, opposite}
use Rattle.lin_rows.specs.declared.types.RowKind.TheVariants.{Le}
use Rattle.lin_rows.specs.Rows.{LinearRow}
use Rattle.lin_rows.specs.Sums.{row_of}

-- a sum: columns with coefficients, where columns may repeat, and a constant; the rows of its helpers, and how many they are
pub record Linear : Type 0 where
  pub terms : List (ℕ × ℤ)
  pub constant : ℤ
  pub rows : List LinearRow
  pub helpers : ℕ

-- a sum whose helpers are numbered from a given column on
abbrev pub Linears : Type 0
Linears = ℕ → Linear

-- what the sum is at a point
abbrev pub amount : (ℕ → ℤ) → Linear → ℤ
amount point x = dot point x.terms +ℤ x.constant

abbrev pub linear_number : ℤ → Linears
linear_number k n = record { terms = []; constant = k; rows = []; helpers = 0 }

abbrev pub column : ℕ → Linears
column c n = record { terms = (c, pos 1) ∷ []; constant = pos 0; rows = []; helpers = 0 }

abbrev pub linear_negated : Linears → Linears
linear_negated a n = let x = a n in record x { terms = opposite x.terms; constant = neg_ℤ x.constant }

-- the second of two sums, its helpers numbered after those of the first
abbrev pub after : Linears → Linears → Linears
after a b n = b (n + (a n).helpers)

-- terms and a constant with the helpers of two sums
abbrev pub linear_over : Linear → Linear → List (ℕ × ℤ) → ℤ → Linear
linear_over x y terms constant = record { terms = terms; constant = constant; rows = x.rows ++ y.rows; helpers = x.helpers + y.helpers }

abbrev pub linear_plus : Linears → Linears → Linears
linear_plus a b n = let x = a n in let y = after a b n in linear_over x y (x.terms ++ y.terms) (x.constant +ℤ y.constant)

abbrev pub linear_minus : Linears → Linears → Linears
linear_minus a b n = let x = a n in let y = after a b n in linear_over x y (x.terms ++ opposite y.terms) (x.constant -ℤ y.constant)

-- a*b, where one of them is worth its constant, k or l: k*b + l*a - k*l
abbrev pub linear_times : ℤ → ℤ → Linears → Linears → Linears
linear_times k l a b n =
    let x = a n in
    let y = after a b n in
    linear_over x y (scaled k y.terms ++ scaled l x.terms) (((k *ℤ y.constant) +ℤ (l *ℤ x.constant)) -ℤ (k *ℤ l))

-- `k*q - x <= 0` and `x - k*q <= |k|-1`, constants to the right
abbrev pub quotient_rows : ℤ → Linear → ℕ → List LinearRow
quotient_rows k x q =
    row_of ((q, k) ∷ opposite x.terms) Le x.constant ∷
    row_of (x.terms ++ (q, neg_ℤ k) ∷ []) Le ((pos (unsigned_abs k) -ℤ pos 1) -ℤ x.constant) ∷ []

-- terms and a constant with the helpers of a sum and one more, the quotient of the sum by k
abbrev pub over_quotient : ℤ → Linear → ℕ → List (ℕ × ℤ) → ℤ → Linear
over_quotient k x q terms constant =
    record { terms = terms; constant = constant; rows = x.rows ++ quotient_rows k x q; helpers = x.helpers + 1 }

-- `a div k` is its helper q
abbrev pub linear_divided : ℤ → Linears → Linears
linear_divided k a n = let x = a n in let q = n + x.helpers in over_quotient k x q ((q, pos 1) ∷ []) (pos 0)

-- `a mod k` is a - k*q
abbrev pub remaining : ℤ → Linears → Linears
remaining k a n = let x = a n in let q = n + x.helpers in over_quotient k x q (x.terms ++ (q, neg_ℤ k) ∷ []) x.constant
