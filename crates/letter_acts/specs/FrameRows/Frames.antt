-- Columns of frames by what they are.
use Rattle.std.specs.Prelude.{Bool}
use Rattle.boogie_tree.specs.declared.tree.Column.{Column}
use Rattle.boogie_tree.specs.declared.tree.VarInfo.{VarInfo}
use Rattle.letter_acts.specs.Frames.{is_global, is_fixed_column, is_variable, is_result, is_local, is_old_column}
use Rattle.letter_acts.specs.declared.frame_rows.frames.Class.{Class}
use Rattle.letter_acts.specs.declared.frame_rows.frames.Class.TheVariants.{Global, Constant, Variable, Outcome, Local, Old}

-- the column has what a global had at the entry
abbrev pub is_old : (Column × VarInfo) → Bool
is_old c = is_old_column c.0

-- the column is of this class
abbrev pub is_of : Class → (Column × VarInfo) → Bool
is_of Global = is_global
is_of Constant = is_fixed_column
is_of Variable = is_variable
is_of Outcome = is_result
is_of Local = is_local
is_of Old = is_old
