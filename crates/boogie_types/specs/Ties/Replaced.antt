-- A program with its names replaced, as the code keeps it.
use Rattle.std.specs.Prelude.{◌≡◌, ℕ, true, ◌&&◌, List, Option, None, Some, if◌then◌else◌}
use Rattle.boogie_tree.specs.Tree.{Declaration}
use Rattle.typed_tree.specs.TypedTree.{TypedProgram}
use Rattle.typed_tree.specs.TypingRules.TypedParts.{program_of}
use Rattle.typed_tree.specs.TypingRules.ValidProgram.{has_entry}
use Rattle.boogie_types.specs.declared.declarations.Replaced.{Replaced}
use Rattle.boogie_types.specs.Resolved.{are_sets, are_implementations, named_program}

-- the program, with the entry 0
abbrev pub program_by : Replaced → TypedProgram
program_by r = program_of r.globals.items r.axioms.items r.procs.items

-- These declarations with their names replaced. The sets of names are sets, and the implementations are right.
pub record IsReplaced (ds : List Declaration) (t : TypedProgram) : Type 0 where
  pub sorted : are_sets ds && are_implementations ds ≡ true
  pub named : named_program ds ≡ Some t

-- the same program with that entry
abbrev pub from_entry : TypedProgram → ℕ → TypedProgram
from_entry t n = record t { entry = n }

-- the number, where it is that of a procedure with a body
abbrev pub if_entry : TypedProgram → Option ℕ → Option ℕ
if_entry t None = None
if_entry t (Some n) = if has_entry (from_entry t n) then Some n else None
