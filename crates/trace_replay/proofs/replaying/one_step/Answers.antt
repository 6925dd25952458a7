use Rattle.std.proofs.Common.{Err, refl, ap, sym, ◌∙◌}
use Rattle.typed_tree.specs.TypingRules.TypedParts.{typed_program}
use Rattle.boogie_run.specs.Needs.{need}
use Rattle.boogie_run.specs.RunView.{config_of}
use Rattle.boogie_run.specs.StepView.{need_view, choice_view, line_at}
use Rattle.trace_replay.specs.FailureText.{numbers}
use Rattle.trace_replay.proofs.ReplayCode.{is_next, step_went, step_blocked, step_ended, step_failed, step_failed_early, choice_missing, choice_refused, value_past}
use Rattle.trace_replay.proofs.replaying.one_step.Goals as goal
use Rattle.trace_replay.proofs.replaying.one_step.Goals.{in-Ok-Went, in-Ok-Failed, in-Ok-Failed-2, in-Ok-Blocked, in-Ok-Ended, in-Err-NeedsChoice, in-Err-BadChoice, in-Err-Number}

pub returns-clause-turns : goal.returns-clause-turns
returns-clause-turns c =
    let t = typed_program c.args.program.now in
    let before = config_of c.args.config.now in
    let after = config_of c.step.new.config in
    let left = numbers c.args.left.now in
    let choice = choice_view c.next_choice-choice.result.0 in
    let rest = c.next_choice-choice.result.1.now in
    let line = line_at t before in
    let next = is_next (need_view c.needs.result) (need t before) left choice (numbers rest) c.needs.ensures c.next_choice-choice.ensures.choice c.next_choice-choice.ensures.rest in
    elim c.match-step.branch [
      | in-Ok-Went w ↦ rw w.result-is (step_went t before after left choice (numbers rest) line next (w.in-Ok-Went.ensures.fit refl) (rw w.in-Ok-Went.field-0-is at w.in-Ok-Went.ensures.moved))
      | in-Ok-Failed w ↦ rw w.result-is (step_failed t before after left choice rest line w.in-Ok-Failed.id next (w.in-Ok-Failed.ensures.fit refl) (rw w.in-Ok-Failed.field-0-is at w.in-Ok-Failed.ensures.moved) (sym w.if-is_empty.true ∙ w.is_empty.ensures))
      | in-Ok-Failed-2 w ↦ rw w.result-is (step_failed_early t before after left choice rest line w.in-Ok-Failed.id next (w.in-Ok-Failed.ensures.fit refl) (rw w.in-Ok-Failed.field-0-is at w.in-Ok-Failed.ensures.moved) (sym w.if-is_empty.false ∙ w.is_empty.ensures))
      | in-Ok-Blocked w ↦ rw w.result-is (step_blocked t before after left choice (numbers rest) line next (w.in-Ok-Blocked.ensures.fit refl) (rw w.in-Ok-Blocked.field-0-is at w.in-Ok-Blocked.ensures.moved))
      | in-Ok-Ended w ↦ rw w.result-is (step_ended t before after left choice (numbers rest) line next (w.in-Ok-Ended.ensures.fit refl) (rw w.in-Ok-Ended.field-0-is at w.in-Ok-Ended.ensures.moved))
      | in-Err-NeedsChoice w ↦ rw w.result-is (choice_missing t before left choice (numbers rest) next (w.in-Err-NeedsChoice.ensures.needs_choice.0 (ap Err w.in-Err-NeedsChoice.field-0-is)))
      | in-Err-BadChoice w ↦ rw w.result-is (choice_refused t before left choice (numbers rest) next (w.in-Err-BadChoice.ensures.bad_choice.0 (ap Err w.in-Err-BadChoice.field-0-is)))
      | in-Err-Number w ↦ rw w.result-is (value_past t before left choice (numbers rest) next (w.in-Err-Number.ensures.number_taken (ap Err w.in-Err-Number.field-0-is)) (w.in-Err-Number.ensures.number (ap Err w.in-Err-Number.field-0-is)))
    ]
