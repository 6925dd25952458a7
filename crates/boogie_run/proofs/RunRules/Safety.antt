-- The machine fails what the rules fail, and what is safe by the rules is so by the choices of the machine.
use Rattle.typed_tree.specs.TypedTree.{TypedProgram}
use Rattle.boogie_run.specs.Runs.{NoChoicesFail}
use Rattle.boogie_run.specs.RunRules.Runs.{IsSafe}
use Rattle.boogie_run.specs.RunRules.Laws.{MachineFollowsRules}
use Rattle.boogie_run.proofs.RunRules.Whole.{by_rules, by_machine}
use Rattle.boogie_run.proofs.RunRules.Agreements.{all_agree}

pub machine_follows_rules : MachineFollowsRules
machine_follows_rules t n = (by_rules t (all_agree t) n, by_machine t (all_agree t) n)

pub safe_by_rules : (t : TypedProgram) → NoChoicesFail t → IsSafe t
safe_by_rules t none n fails = none n ((machine_follows_rules t n).1 fails)

pub safe_by_choices : (t : TypedProgram) → IsSafe t → NoChoicesFail t
safe_by_choices t safe n fails = safe n ((machine_follows_rules t n).0 fails)
