-- That the rules and the steps of the machine are about the same runs.
use Rattle.std.specs.Prelude.{◌↔◌, ℕ}
use Rattle.typed_tree.specs.TypedTree.{TypedProgram}
use Rattle.boogie_run.specs.Runs.{ChoicesFail}
use Rattle.boogie_run.specs.RunRules.Runs.{Fails}

-- Some choices lead the machine to the failure of an assertion exactly where some run fails it by the rules.
abbrev pub MachineFollowsRules : Type 0
MachineFollowsRules = (t : TypedProgram) (n : ℕ) → ChoicesFail t n ↔ Fails t n
