use Rattle.typed_tree.specs.TypingRules.TypedParts.{typed_program}
use Rattle.boogie_run.specs.RunView.{config_of, FitsProgram}
use Rattle.trace_replay.specs.FailureText.{numbers}
use Rattle.trace_replay.specs.ReplayCauses.{HasMade}
use Rattle.trace_replay.proofs.trying.tried.Given as goal

abbrev pub invariant-loop-made : goal.invariant-loop-made
invariant-loop-made l = record {
  made : HasMade (typed_program l.program) (numbers l.choices) l.made (config_of l.config) (numbers l.left);
  fits : FitsProgram l.program l.config;
}
