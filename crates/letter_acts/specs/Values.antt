-- Values of columns, read and written, and rows over them.
use Rattle.std.specs.Prelude.{◌≡◌, ℕ, ◌<◌, ℤ, List, [], ◌∷◌, ◌++◌, map, length, slice_set}
use Rattle.std.specs.List.{AllByRecursion}
use Rattle.lin_rows.specs.Rows.{LinearRow, Holds}
use Rattle.lin_rows.specs.Points.{point_of}

-- the values of these columns
abbrev pub picked : List ℤ → List ℕ → List ℤ
picked values columns = map (point_of values) columns

-- the values with these columns written, one after the other, as long as both lists last
abbrev pub put_all : List ℤ → List ℕ → List ℤ → List ℤ
put_all values [] news = values
put_all values (c ∷ cs) [] = values
put_all values (c ∷ cs) (v ∷ vs) = put_all (slice_set values c v) cs vs

-- so many helper numbers exist with which all rows hold over the values and the helpers
pub record RowsHold (values : List ℤ) (count : ℕ) (rows : List LinearRow) : Type 0 where
  pub helpers : List ℤ
  pub as_many : length helpers ≡ count
  pub hold : AllByRecursion (Holds (point_of (values ++ helpers))) rows

-- the same with another point in place of a list: one that has the values, and any numbers at the columns after them
pub record HoldBeyond (values : List ℤ) (rows : List LinearRow) : Type 0 where
  pub point : ℕ → ℤ
  pub agrees : (c : ℕ) → c < length values → point c ≡ point_of values c
  pub hold : AllByRecursion (Holds point) rows
