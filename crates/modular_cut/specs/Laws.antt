-- What parts are worth.
use Rattle.std.specs.Prelude.{◌≡◌, ℕ, IsTrue, true, Some, slice_get}
use Rattle.std.specs.List.{list_all}
use Rattle.boogie_tree.specs.Names.{is_name}
use Rattle.typed_tree.specs.TypedTree.{TypedBlock, TypedProcedure, TypedProgram}
use Rattle.typed_tree.specs.TypingRules.ValidProgram.{is_typed, is_valid}
use Rattle.boogie_run.specs.RunRules.Runs.{IsSafe}
use Rattle.modular_cut.specs.Parts.{procedure_part}

-- A part keeps the typing rules, where the names of the procedures are names of the language: that of the copy is none.
abbrev pub PartsAreTyped : Type 0
PartsAreTyped = (t : TypedProgram) (n : ℕ) (q : TypedProcedure) (b : TypedBlock) → is_typed t ≡ true → list_all (λ p. is_name p.name) t.procs ≡ true →
    slice_get t.procs n ≡ Some q → q.body ≡ Some b → is_typed (procedure_part t n) ≡ true

-- A program is safe where each of its parts is.
abbrev pub PartsSuffice : Type 0
PartsSuffice = (t : TypedProgram) → IsTrue (is_valid t) →
    ((n : ℕ) (q : TypedProcedure) (b : TypedBlock) → slice_get t.procs n ≡ Some q → q.body ≡ Some b → IsTrue (is_valid (procedure_part t n)) × IsSafe (procedure_part t n)) →
    IsSafe t
