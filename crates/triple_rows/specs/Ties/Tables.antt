-- Tables of columns: which number each column of a state gets in the system of a triple.
use Rattle.std.specs.Prelude.{◌≡◌, ℕ, ◌<◌, List, length, slice_index, Option, None, Some}
use Rattle.boogie_tree.specs.declared.tree.Column.{Column}
use Rattle.boogie_tree.specs.declared.tree.Column.TheVariants as columns
use Rattle.letter_acts.specs.Invariant.{AreDistinct}

-- A table with which n columns are renamed: column c gets the number `to c`, and no two get the same.
pub record IsTable (n : ℕ) (to : ℕ → ℕ) (columns : List ℕ) : Type 0 where
  pub count : length columns ≡ n
  pub value : (c : ℕ) → c < n → slice_index columns c ≡ to c
  pub differ : AreDistinct columns

-- the global whose value at the entry an old column has
abbrev pub old_global : Column → Option ℕ
old_global (columns.Global g) = None
old_global (columns.Old g) = Some g
old_global (columns.Local l) = None
