-- Rows over columns that are numbered anew, columns that are equal, and the bounds of booleans.
use Rattle.std.specs.Prelude.{◌≡◌, ℕ, zero, suc, pos, negsuc, List, [], ◌∷◌, ◌++◌, map, length, slice_index, Option, None, Some}
use Rattle.std.specs.List.{AllByRecursion}
use Rattle.boogie_tree.specs.declared.tree.Ty.{Ty}
use Rattle.boogie_tree.specs.declared.tree.Ty.TheVariants as types
use Rattle.math_facts.specs.Terms.{IsBelow}
use Rattle.lin_rows.specs.declared.types.RowKind.TheVariants.{Le, Eq}
use Rattle.lin_rows.specs.Rows.{LinearRow}
use Rattle.lin_rows.specs.Sums.{row_of}
use Rattle.nwa_base.specs.Members.{Member}
use Rattle.letter_acts.specs.Frames.{Columns}
use Rattle.letter_acts.specs.Invariant.{type_at}

-- so many columns from n on
abbrev pub columns_from : ℕ → ℕ → List ℕ
columns_from n zero = []
columns_from n (suc k) = n ∷ columns_from (suc n) k

-- the row with its columns renamed
abbrev pub renamed : (ℕ → ℕ) → LinearRow → LinearRow
renamed to r = row_of (map (λ t. (to t.0, t.1)) r.terms) r.kind r.bound

-- no two columns of a row get the same name
abbrev pub NamesDiffer : List ℕ → LinearRow → Type 0
NamesDiffer names r =
    (a b : ℕ) → Member (map (λ t. t.0) r.terms) a → Member (map (λ t. t.0) r.terms) b → slice_index names a ≡ slice_index names b → a ≡ b

-- the rows name columns that have names, which differ in each row
pub record RowsAreNamed (names : List ℕ) (rows : List LinearRow) : Type 0 where
  pub within : AllByRecursion (λ r. IsBelow (length names) r.terms) rows
  pub differ : AllByRecursion (NamesDiffer names) rows

-- column a equals column b
abbrev pub equal_row : ℕ → ℕ → LinearRow
equal_row a b = row_of ((a, pos 1) ∷ (b, negsuc 0) ∷ []) Eq (pos 0)

-- a boolean column is 0 or 1: `-c <= 0` and `c <= 1`
abbrev pub bounds_of : ℕ → Option Ty → List LinearRow
bounds_of c None = []
bounds_of c (Some types.Int) = []
bounds_of c (Some types.Bool) = row_of ((c, negsuc 0) ∷ []) Le (pos 0) ∷ row_of ((c, pos 1) ∷ []) Le (pos 1) ∷ []

-- the same for each boolean one of the columns from n on, which have these types
abbrev pub bounds : ℕ → List (Option Ty) → List LinearRow
bounds n [] = []
bounds n (t ∷ ts) = bounds_of n t ++ bounds (suc n) ts

-- the types of columns
abbrev pub types_of : Columns → List (Option Ty)
types_of columns = map (λ v. Some v.1.ty) columns

-- the types of these columns of a frame
abbrev pub types_at : Columns → List ℕ → List (Option Ty)
types_at frame columns = map (type_at frame) columns
