use Rattle.explain_top.proofs.FailureLaws.{follows_replay}
use Rattle.explain_top.proofs.running.explanations_follow_replays.Goals as goal

pub returns : goal.returns
returns c = λ entry program second all a b kind r s. follows_replay entry program second all a b kind r s
