-- The frames of a program's procedures, and the state of a frame that a configuration shows.
use Rattle.std.specs.Prelude.{ℕ, ℤ, not, List, [], ◌∷◌, ◌++◌, length, Option, None, Some}
use Rattle.boogie_tree.specs.declared.tree.Column.{Column}
use Rattle.boogie_tree.specs.declared.tree.VarInfo.{VarInfo}
use Rattle.typed_tree.specs.TypedTree.{TypedProgram}
use Rattle.typed_tree.specs.Values.{State}
use Rattle.letter_acts.specs.Frames.{Columns, added, globals_from, old_columns, locals_from}
use Rattle.cond_jumps.specs.Frames.{column_place_in}
use Rattle.boogie_run.specs.Needs.{locals_at}

-- the frame of procedure n: constants and globals, the old values of those that vary, its parameters, results and locals
abbrev pub frame_at : TypedProgram → ℕ → Columns
frame_at t n = globals_from 0 t.globals ++ (old_columns 0 t.globals ++ locals_from 0 (locals_at t n))

-- how many columns it has
abbrev pub width_at : TypedProgram → ℕ → ℕ
width_at t n = length (frame_at t n)

-- of values of the constants and globals those of the globals that vary
abbrev pub variable_values : List VarInfo → List ℤ → List ℤ
variable_values [] zs = []
variable_values (v ∷ vs) [] = []
variable_values (v ∷ vs) (z ∷ zs) = added (not v.constant) z (variable_values vs zs)

-- the values of the columns of a frame
abbrev pub shown : TypedProgram → State → List ℤ
shown t s = s.globals ++ (variable_values t.globals s.old ++ s.locals)

abbrev pub column_number_if_any : Option (ℕ × VarInfo) → ℕ
column_number_if_any None = 0
column_number_if_any (Some x) = x.0

-- the number of a column in a frame
abbrev pub column_number : Columns → Column → ℕ
column_number frame c = column_number_if_any (column_place_in frame c)
