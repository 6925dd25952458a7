use Rattle.explain_top.proofs.MoreLaws.{answer_says_more}
use Rattle.explain_top.proofs.running.explanations_say_more.Goals as goal

pub returns : goal.returns
returns c = answer_says_more c.explained_programs_say_more.ensures
