use Rattle.rank_lasso.specs.LassoText.{letters_text, AreShort}
use Rattle.rank_lasso.proofs.LineLaws.{no_line, other_content, unread}
use Rattle.explain_top.specs.TraceStory.Ties.TraceLines.{letters_kind}
use Rattle.explain_top.proofs.trace_story.reading.trace_line.Goals as goal

pub returns-in_default : goal.returns-in_default
returns-in_default c = no_line letters_kind c.args.text.now c.in_default.ensures

pub returns-in_default-2 : goal.returns-in_default-2
returns-in_default-2 c =
    other_content letters_kind c.args.text.now c.in-Some.content.now c.in-Some.rest.now c.in-Some.ensures.0 c.in-Some.ensures.1
    (unread (λ v. v.items) AreShort letters_text c.in-Some.content.now c.in_ok-letters.field-0 c.in_default-2.is c.in_ok-letters.ensures)
