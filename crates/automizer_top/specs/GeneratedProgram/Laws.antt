-- What is said of the generated program.
use Rattle.std.specs.Prelude.{◌≡◌, ℕ, ◌+◌, ◌*◌, length, true, Some, None, codes}
use Rattle.typed_tree.specs.TypedTree.{TypedProgram}
use Rattle.boogie_types.specs.Resolved.{are_named, resolved_program}
use Rattle.lowered_graph.specs.Items.{first_fault}
use Rattle.lowered_graph.specs.Lowered.{lowered}
use Rattle.automizer_top.specs.GeneratedProgram.Generated.{generated}

-- its names are names, and it is typed
abbrev pub IsTyped : ℕ → Type 0
IsTyped count = (are_named (generated count) ≡ true) × ((t : TypedProgram) × (resolved_program (generated count) (codes "main") ≡ Some t))

-- its lowering is not refused
abbrev pub IsLowered : ℕ → Type 0
IsLowered count = (t : TypedProgram) → resolved_program (generated count) (codes "main") ≡ Some t → first_fault t ≡ None

-- So many procedures with `main`, and so many assertions; its graph has so many places and letters.
pub record HasSizes (count : ℕ) (t : TypedProgram) : Type 0 where
  pub procedures : length t.procs ≡ count + 1
  pub places : (lowered t).automaton.states ≡ 5 * count + 3
  pub letters : length (lowered t).acts ≡ 5 * count + 2
  pub assertions : length (lowered t).sites ≡ count

abbrev pub IsSized : ℕ → Type 0
IsSized count = (t : TypedProgram) → resolved_program (generated count) (codes "main") ≡ Some t → HasSizes count t
