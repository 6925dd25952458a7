use Rattle.explain_top.proofs.MoreLaws.{follows_check}
use Rattle.explain_top.proofs.running.explanations_follow_checks.Goals as goal

pub returns : goal.returns
returns c = follows_check c.explained_programs_say_more.ensures
