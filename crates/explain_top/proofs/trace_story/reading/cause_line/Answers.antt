use Rattle.explain_top.proofs.TraceStory.TraceLaws.{no_cause}
use Rattle.explain_top.proofs.trace_story.reading.cause_line.Goals as goal

pub returns-in_err-cause_of : goal.returns-in_err-cause_of
returns-in_err-cause_of c =
    rw c.from_residual-in_err-cause_of.ensures (λ cause. no_cause c.args.text.now c.in_ok-content.content.now c.in_ok-content.rest.now c.in_ok-content.ensures cause (c.in_err-cause_of.ensures cause))
