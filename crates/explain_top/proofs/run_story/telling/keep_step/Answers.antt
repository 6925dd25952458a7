use Rattle.explain_top.proofs.run_story.telling.keep_step.Goals as goal

pub returns-clause-kept : goal.returns-clause-kept
returns-clause-kept c = (c.in_ok-turn.field-0.line.items, c.in_ok-turn.ensures.line, c.in_ok-keep.ensures.kept)
