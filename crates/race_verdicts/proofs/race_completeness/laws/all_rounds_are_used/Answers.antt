use Rattle.race_verdicts.proofs.RaceCompleteness.ShortHistories.{all_used}
use Rattle.race_verdicts.proofs.race_completeness.laws.all_rounds_are_used.Goals as goal

pub returns : goal.returns
returns c = all_used
