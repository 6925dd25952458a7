-- What rows say where a clause stands, or at the entry of the frame.
use Rattle.std.specs.Prelude.{ℕ, ◌^◌, ℤ, negsuc, neg_ℤ, ◌+ℤ◌, unsigned_abs, nat_lt, int_le, Bool, true, not, ◌&&◌, List, [], ◌∷◌, ◌++◌, map, Option, None, Some, is_some, if◌then◌else◌}
use Rattle.std.specs.List.{list_any, list_all}
use Rattle.std.specs.Ordering.{int_eq}
use lib.Pointwise.{pointwise}
use Rattle.math_facts.specs.Terms.{coefficient, opposite}
use Rattle.lin_rows.specs.Rows.{LinearRow}
use Rattle.lin_rows.specs.declared.types.RowKind.TheVariants.{Le}
use Rattle.lin_rows.specs.Sums.{row_of}
use Rattle.lin_rows.specs.Tightening.{tightened}
use Rattle.letter_acts.specs.LetterTable.Letters.{same_term}
use Rattle.explained_proof.specs.BuiltExpressions.Members.{Conjuncts, always, denied, with_members}
use Rattle.explained_proof.specs.RowExpressions.Scopes.{ClauseScope, is_of_entry, entry_column}
use Rattle.explained_proof.specs.RowExpressions.Rows.{row_said}
use Rattle.explained_proof.specs.FactExpressions.Facts.{with_row}

abbrev pub opposite_terms : LinearRow → LinearRow → Bool
opposite_terms r s = pointwise same_term r.terms (opposite s.terms)

-- two rows are an equality together
abbrev pub are_opposite : LinearRow → LinearRow → Bool
are_opposite r s = int_eq r.bound (neg_ℤ s.bound) && opposite_terms r s

abbrev pub has_opposite : List LinearRow → LinearRow → Bool
has_opposite rs r = list_any (are_opposite r) rs

-- one of two rows holds anywhere: their terms are opposite, and their bounds leave nothing between them
abbrev pub cover_all : LinearRow → LinearRow → Bool
cover_all r s = int_le (negsuc 0) (r.bound +ℤ s.bound) && opposite_terms r s

-- each running sum of one column fits; the first list has the terms before
abbrev pub sums_fit : List (ℕ × ℤ) → List (ℕ × ℤ) → Bool
sums_fit before [] = true
sums_fit before (t ∷ ts) = nat_lt (unsigned_abs (coefficient t.0 before +ℤ t.1)) (2 ^ 127) && sums_fit (before ++ t ∷ []) ts

-- the terms by the columns that speak of the entry
abbrev pub entry_terms : ClauseScope → List (ℕ × ℤ) → List (ℕ × ℤ)
entry_terms s ts = map (λ t. (entry_column s t.0, t.1)) ts

-- a row at the entry; none where a number does not fit
abbrev pub entry_row : ClauseScope → LinearRow → Option LinearRow
entry_row s r =
    if sums_fit [] (entry_terms s r.terms) then Some (tightened (row_of (entry_terms s r.terms) Le r.bound)) else None

abbrev pub with_row_if : Option LinearRow → List LinearRow → List LinearRow
with_row_if None rs = rs
with_row_if (Some r) rs = with_row r rs

-- the rows that are there, of equal terms one
abbrev pub merged : List (Option LinearRow) → List LinearRow → List LinearRow
merged [] so_far = so_far
merged (o ∷ os) so_far = merged os (with_row_if o so_far)

-- What the first of these rows says, behind those of the first list: nothing where one of those makes an equality with it.
abbrev pub row_said_at : ClauseScope → List LinearRow → List LinearRow → Conjuncts
row_said_at s before [] = always
row_said_at s before (r ∷ rs) = if has_opposite before r then always else row_said s r (has_opposite (r ∷ rs) r)

-- what rows say behind those of the first list
abbrev pub rows_said : ClauseScope → List LinearRow → List LinearRow → Conjuncts
rows_said s before [] = always
rows_said s before (r ∷ rs) = with_members (row_said_at s before (r ∷ rs)) (rows_said s (before ++ r ∷ []) rs)

-- what rows say that are told by the columns of the entry
abbrev pub entry_said : ClauseScope → List (Option LinearRow) → Conjuncts
entry_said s os = if s.premise && not (list_all is_some os) then denied else rows_said s [] (merged os [])

-- what rows say, at the entry or where the clause stands
abbrev pub told_rows : ClauseScope → List LinearRow → Conjuncts
told_rows s rs = if is_of_entry s then entry_said s (map (entry_row s) rs) else rows_said s [] rs
