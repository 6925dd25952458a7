-- The sum of a leaf at a position: its counted rows, each times its multiplier, over the columns of the frame.
use Rattle.std.specs.Prelude.{ℕ, suc, ℤ, pos, negsuc, ◌-ℤ◌, Bool, true, false, List, [], ◌∷◌, ◌++◌, map, filter, nat_lt, slice_index, Option, None, Some}
use Rattle.math_facts.specs.Terms.{coefficient}
use Rattle.lin_rows.specs.declared.types.RowKind.TheVariants.{Le}
use Rattle.lin_rows.specs.Rows.{LinearRow}
use Rattle.lin_rows.specs.Sums.{led_by}
use Rattle.lin_rows.specs.Tightening.{tightened}
use Rattle.lin_rows.specs.Combinations.{combined}
use Rattle.nwa_base.specs.declared.letters.Letter.{Letter}
use Rattle.letter_acts.specs.Invariant.{Graph}
use Rattle.path_rows.specs.Paths.{path_of}
use Rattle.triple_rows.specs.Predicates.{Formula, truth, atom}
use Rattle.nested_itp.specs.NestedPredicates.Stamps.{stamps_of}
use Rattle.nested_itp.specs.NestedPredicates.Positions.{Position}

-- the rows that hold on a branch of a refutation, which its leaf adds up: those of the word, tightened, and then those of the
-- branch's cuts; and their stamps
pub record Branch : Type 0 where
  pub rows : List LinearRow
  pub stamps : List ℕ

-- before any cut
abbrev pub root_of : Graph → List Letter → Branch
root_of g w = record { rows = map tightened (path_of g w).rows; stamps = (stamps_of g w).rows }

-- with a row at the end, which has this stamp
abbrev pub with_cut : Branch → ℕ → LinearRow → Branch
with_cut b stamp row = record { rows = b.rows ++ row ∷ []; stamps = b.stamps ++ stamp ∷ [] }

-- the parts of a leaf whose rows have stamps up to s
abbrev pub parts_upto : List ℕ → ℕ → List (ℕ × ℤ) → List (ℕ × ℤ)
parts_upto stamps s parts = filter (λ t. nat_lt (slice_index stamps t.0) (suc s)) parts

-- the sum, up to a stamp, of a number of each row
abbrev pub sum_upto : Branch → List (ℕ × ℤ) → (LinearRow → ℤ) → ℕ → ℤ
sum_upto b parts number s = combined number b.rows (parts_upto b.stamps s parts)

-- of the coefficients of a version
abbrev pub column_upto : Branch → List (ℕ × ℤ) → ℕ → ℕ → ℤ
column_upto b parts s version = sum_upto b parts (λ r. coefficient version r.terms) s

-- of the bounds
abbrev pub bound_upto : Branch → List (ℕ × ℤ) → ℕ → ℤ
bound_upto b parts s = sum_upto b parts (λ r. r.bound) s

-- what the caller's sum at the call has at the version by which it speaks of a column
abbrev pub known_sum : Branch → List (ℕ × ℤ) → ℕ → Option ℕ → ℤ
known_sum b parts own None = pos 0
known_sum b parts own (Some version) = column_upto b parts own version

-- Of each column of a frame the sum up to a stamp, less what the caller's sum at the call has there. In the caller's sum the
-- globals stand for the values that they had at the call, which in the callee are its old columns.
abbrev pub column_sums : Branch → List (ℕ × ℤ) → ℕ → ℕ → List ℕ → List (Option ℕ) → List ℤ
column_sums b parts own upto [] known = []
column_sums b parts own upto (v ∷ vs) [] = column_upto b parts upto v ∷ column_sums b parts own upto vs []
column_sums b parts own upto (v ∷ vs) (k ∷ ks) =
    (column_upto b parts upto v -ℤ known_sum b parts own k) ∷ column_sums b parts own upto vs ks

-- the columns, or the rows, from number n on with these coefficients, those with 0 left out
abbrev pub terms_from : ℕ → List ℤ → List (ℕ × ℤ)
terms_from n [] = []
terms_from n (a ∷ coefficients) = led_by n a (terms_from (suc n) coefficients)

abbrev pub is_not_negative : ℤ → Bool
is_not_negative (pos n) = true
is_not_negative (negsuc n) = false

-- the inequality of these terms; without terms it is true or false
abbrev pub inequality : List (ℕ × ℤ) → ℤ → Formula
inequality [] bound = truth (is_not_negative bound)
inequality (t ∷ ts) bound = atom (record { terms = t ∷ ts; kind = Le; bound = bound })

-- the coefficients of a leaf's sum at a position
abbrev pub coefficients_at : Branch → List (ℕ × ℤ) → Position → List ℤ
coefficients_at b parts q = column_sums b parts q.scope.own q.upto q.here q.scope.known

-- and its bound
abbrev pub bound_at : Branch → List (ℕ × ℤ) → Position → ℤ
bound_at b parts q = bound_upto b parts q.upto -ℤ bound_upto b parts q.scope.own

-- the sum of a leaf at a position
abbrev pub sum_at : Branch → List (ℕ × ℤ) → Position → Formula
sum_at b parts q = inequality (terms_from 0 (coefficients_at b parts q)) (bound_at b parts q)
