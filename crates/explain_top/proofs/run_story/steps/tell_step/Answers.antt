use Rattle.typed_tree.specs.TypingRules.TypedParts.{typed_program}
use Rattle.boogie_run.specs.RunView.{config_of}
use Rattle.trace_replay.specs.FailureText.{numbers}
use Rattle.explain_top.specs.RunStory.Ties.Changes.{changed_columns}
use Rattle.explain_top.proofs.RunStory.StepLemmas.{tells}
use Rattle.explain_top.proofs.run_story.steps.tell_step.Goals as goal

pub returns-clause-line : goal.returns-clause-line
returns-clause-line c = λ ds is.
    tells (typed_program c.args.program.now) ds (config_of c.args.config.now) (config_of c.one_step.new.config) (numbers c.args.left.now) c.in_ok-turn.turn c.in_ok-line.line
    c.note_behind.new.line c.append.new.out.items (changed_columns (typed_program c.args.program.now) c.step_changes-changes.result) (c.in_ok-line.ensures ds is) c.step_changes-changes.ensures
    c.in_ok-note_behind.ensures c.in_ok-append.ensures
