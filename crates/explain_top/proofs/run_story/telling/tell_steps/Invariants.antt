use Rattle.std.specs.Prelude.{List}
use Rattle.boogie_tree.specs.Tree.{Declaration}
use Rattle.typed_tree.specs.TypingRules.TypedParts.{typed_program}
use Rattle.boogie_run.specs.RunView.{config_of, FitsProgram}
use Rattle.trace_replay.specs.FailureText.{numbers}
use Rattle.trace_replay.specs.ReplayCauses.{HasMade}
use Rattle.explain_top.specs.RunStory.Tables.{IsTable}
use Rattle.explain_top.proofs.RunStory.RunLemmas.{HasTold}
use Rattle.explain_top.proofs.run_story.telling.tell_steps.Given as goal

abbrev pub invariant-loop-made : goal.invariant-loop-made
invariant-loop-made l = record {
  made : HasMade (typed_program l.program) (numbers l.trail.choices.items) l.made (config_of l.config) (numbers l.left);
  told : (ds : List Declaration) → IsTable ds l.table → HasTold (typed_program l.program) ds l.fn.lines.all (numbers l.trail.choices.items) l.made (config_of l.config) (numbers l.left) l.lines;
  fits : FitsProgram l.program l.config;
}
