-- Values kept in rows, and marks, by number.
use Rattle.std.specs.Prelude.{ℕ, Bool, false, List, [], Option, None, Some, slice_get, slice_index_or}
use Rattle.std.specs.Global.{Vec}

-- the values of a row that there is, or none
abbrev pub values_of : {V : Type 0} → Option (Vec V) → List V
values_of None = []
values_of (Some values) = values.items

-- the values of the row of a number
abbrev pub row_of : {V : Type 0} → List (Vec V) → ℕ → List V
row_of rows q = values_of (slice_get rows q)

-- whether a number is marked
abbrev pub mark_at : List Bool → ℕ → Bool
mark_at marks q = slice_index_or marks q false
