-- A number for each column.
use Rattle.std.specs.Prelude.{ℕ, ◌+◌, ◌*◌}
use Rattle.boogie_tree.specs.declared.tree.Column.{Column}
use Rattle.boogie_tree.specs.declared.tree.Column.TheVariants as columns

-- Different columns have different numbers.
abbrev pub column_key : Column → ℕ
column_key (columns.Global n) = 3 * n
column_key (columns.Old n) = 3 * n + 1
column_key (columns.Local n) = 3 * n + 2
