-- No default of the definitions of steps is taken in a run of a valid program.
use Rattle.std.specs.Prelude.{◌≡◌, ◌↔◌, ℤ, List, Option, false, IsTrue}
use Rattle.typed_tree.specs.TypedTree.{TypedProgram}
use Rattle.typed_tree.specs.TypingRules.ValidProgram.{is_valid}
use Rattle.boogie_run.specs.Configurations.{Config}
use Rattle.boogie_run.specs.Needs.{need, is_taken}
use Rattle.boogie_run.specs.Steps.{Went, Refused, start, step}
use Rattle.boogie_run.specs.Runs.{run}
use Rattle.boogie_run.specs.RunDefaults.Defaults.{TakesNoDefault}

-- In a run of a valid program no step takes a default.
abbrev pub NoDefaultIsTaken : Type 0
NoDefaultIsTaken = (t : TypedProgram) (choices : List (Option ℤ)) (c : Config) → IsTrue (is_valid t) → run t (start t) choices ≡ Went c → TakesNoDefault t c

-- A step is refused exactly where its choice is not taken: one that is taken leads to a way that is there.
abbrev pub RefusedIsNotTaken : Type 0
RefusedIsNotTaken = (t : TypedProgram) (c : Config) (choice : Option ℤ) → (step t c choice ≡ Refused) ↔ (is_taken (need t c) choice ≡ false)
