use Rattle.itp_automaton.specs.Certified.{IsFeasibleFor}
use Rattle.race_rounds.specs.Rounds.{automaton_in}
use Rattle.race_verdicts.proofs.RaceCompleteness.ShortHistories.{shorter}
use Rattle.race_verdicts.proofs.race_completeness.laws.histories_are_short.Goals as goal

pub returns : goal.returns
returns c = shorter automaton_in IsFeasibleFor
