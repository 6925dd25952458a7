-- A frame whose columns are locals, each by its number.
use Rattle.std.specs.Prelude.{ℕ, zero, suc, false, [], ◌∷◌, ◌++◌}
use Rattle.boogie_tree.specs.declared.tree.Ty.TheVariants as types
use Rattle.boogie_tree.specs.declared.tree.Column.TheVariants as columns
use Rattle.boogie_tree.specs.declared.tree.VarInfo.{VarInfo}
use Rattle.letter_acts.specs.Frames.{Columns}

abbrev pub plain : VarInfo
plain = record { name = []; ty = types.Int; constant = false }

abbrev pub numbered_columns : ℕ → Columns
numbered_columns zero = []
numbered_columns (suc n) = numbered_columns n ++ (columns.Local n, plain) ∷ []
