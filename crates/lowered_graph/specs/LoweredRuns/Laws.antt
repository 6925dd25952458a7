-- What holds of the stack machine of every typed program.
use Rattle.std.specs.Prelude.{◌≡◌, ℕ, List, IsTrue}
use Rattle.typed_tree.specs.TypedTree.{TypedProgram}
use Rattle.typed_tree.specs.TypingRules.ValidProgram.{is_valid}
use Rattle.boogie_run.specs.Steps.{Failed, start}
use Rattle.boogie_run.specs.Runs.{run, ChoicesFail}
use Rattle.lowered_graph.specs.LoweredSteps.Stacks.{Stack, IsStart, MachineFails, MachineFailsExactly}
use Rattle.lowered_graph.specs.LoweredRuns.Choices.{ToldStep, AreToldSteps, machine_choices}

-- Where some choices lead a typed program to the failure of an assertion, its stack machine fails it; and where the machine fails it by exact steps, some choices do.
pub record FailsAsRuns (t : TypedProgram) (i : ℕ) : Type 0 where
  pub follows : ChoicesFail t i → MachineFails t i
  pub leads : MachineFailsExactly t i → ChoicesFail t i

abbrev pub MachinesFailAsRuns : Type 0
MachinesFailAsRuns = (t : TypedProgram) (i : ℕ) → IsTrue (is_valid t) → FailsAsRuns t i

-- And the choices that are told of exact steps of the machine that fail the assertion make a run of the program that fails it.
abbrev pub ToldChoicesFail : Type 0
ToldChoicesFail = (t : TypedProgram) (i : ℕ) (x : Stack) (steps : List ToldStep) → IsTrue (is_valid t) → IsStart t x → AreToldSteps t i x steps → run t (start t) (machine_choices t x steps) ≡ Failed i
