use Rattle.std.proofs.Common.{Bool, subst}
use Rattle.typed_tree.specs.TypingRules.TypedParts.{typed_program}
use Rattle.trace_replay.specs.FailureText.{numbers}
use Rattle.explain_top.specs.RunStory.Story.{IsStory}
use Rattle.explain_top.proofs.run_story.telling.told_run.Goals as goal

pub returns-clause-found : goal.returns-clause-found
returns-clause-found c = λ ds is. (
  c.in_ok-count.id,
  subst (λ (b : Bool). IsStory (typed_program c.args.program.now) ds b c.args.trail.now.steps (numbers c.args.trail.now.choices.items) c.in_ok-count.id c.in_ok-ended.field-0.items) c.no_lines-lines.ensures.all
      (c.in_ok-count.ensures.found ds is c.in_ok-ended.field-0.items c.in_ok-ended.ensures),
)
