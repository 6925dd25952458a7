-- What the columns of frames are.
use Rattle.std.specs.Prelude.{Bool}
use Rattle.boogie_tree.specs.declared.tree.Column.{Column}
use Rattle.boogie_tree.specs.declared.tree.VarInfo.{VarInfo}
use Rattle.letter_acts.specs.Frames.{is_global, is_fixed_column, is_variable, is_local, is_result}
use Rattle.letter_acts.specs.FrameRows.Frames.{is_old}
use Rattle.nested_itp.specs.declared.triple_steps.classes.Class.{Class}
use Rattle.nested_itp.specs.declared.triple_steps.classes.Class.TheVariants.{Global, Constant, Variable, Old, Local, Outcome}

-- the column is of the class
abbrev pub is_of : Class → (Column × VarInfo) → Bool
is_of Global c = is_global c
is_of Constant c = is_fixed_column c
is_of Variable c = is_variable c
is_of Old c = is_old c
is_of Local c = is_local c
is_of Outcome c = is_result c
