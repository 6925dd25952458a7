-- Procedures and columns, found by their names.
use Rattle.std.specs.Prelude.{ℕ, ◌^◌, Bool, true, false, List, ◌++◌, codes, Option, None, Some, bytes_eq, position, slice_get, if◌then◌else◌}
use Rattle.std.specs.Option.{option_and_then}
use Rattle.boogie_tree.specs.declared.tree.Column.{Column}
use Rattle.boogie_tree.specs.declared.tree.Column.TheVariants.{Global, Old, Local}
use Rattle.boogie_tree.specs.declared.tree.VarInfo.{VarInfo}
use Rattle.letter_acts.specs.Frames.{Columns}
use Rattle.letter_acts.specs.Invariant.{Graph}
use Rattle.proof_names.specs.Numbers.{if_below}

-- what stands before the name of a column: `g:` of a constant or global, `o:` of an old value, `l:` of a local
abbrev pub mark : Column → List ℕ
mark (Global n) = codes "g:"
mark (Old n) = codes "o:"
mark (Local n) = codes "l:"

-- the text that names a column
abbrev pub column_text : (Column × VarInfo) → List ℕ
column_text c = mark c.0 ++ c.1.name

-- the column of the frame that the text names; columns have numbers of 32 bits
abbrev pub column_named : Columns → List ℕ → Option ℕ
column_named frame text = option_and_then (if_below (2 ^ 32)) (position (λ c. bytes_eq (column_text c) text) frame)

-- the procedure has a place where its body begins
abbrev pub is_some_entry : Option (Option ℕ) → Bool
is_some_entry None = false
is_some_entry (Some None) = false
is_some_entry (Some (Some place)) = true

-- the procedure, if it has a body
abbrev pub with_body : List (Option ℕ) → ℕ → Option ℕ
with_body entries p = if is_some_entry (slice_get entries p) then if_below (2 ^ 32) p else None

-- the procedure that the text names, if it has a body; procedures have numbers of 32 bits
abbrev pub procedure_named : Graph → List ℕ → Option ℕ
procedure_named g name = option_and_then (with_body g.entries) (position (λ n. bytes_eq n name) g.names)
