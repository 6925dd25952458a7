use Rattle.automizer_top.proofs.BigLaws.{summary_is_verdict}
use Rattle.automizer_top.proofs.running.summaries_are_verdicts.Goals as goal

pub returns : goal.returns
returns c = summary_is_verdict
