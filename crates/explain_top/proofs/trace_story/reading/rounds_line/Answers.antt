use Rattle.explain_top.specs.TraceStory.Ties.TraceLines.{rounds_kind}
use Rattle.rank_lasso.proofs.LineLaws.{no_line, other_content}
use Rattle.explain_top.proofs.trace_story.reading.rounds_line.Goals as goal

pub returns-in_err-content : goal.returns-in_err-content
returns-in_err-content c = rw c.from_residual.ensures (no_line rounds_kind c.args.text.now c.in_err-content.ensures)

pub returns-in_err-long_number : goal.returns-in_err-long_number
returns-in_err-long_number c =
    rw c.from_residual-in_err-long_number.ensures (other_content rounds_kind c.args.text.now c.in_ok-content.content.now c.in_ok-content.rest.now c.in_ok-content.ensures.0 c.in_ok-content.ensures.1
    (λ s. c.in_err-long_number.ensures s.0 s.1 s.2))
