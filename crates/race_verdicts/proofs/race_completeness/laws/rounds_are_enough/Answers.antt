use Rattle.itp_automaton.specs.Certified.{IsFeasibleFor}
use Rattle.race_rounds.specs.Rounds.{automaton_in}
use Rattle.race_verdicts.proofs.RaceCompleteness.ShortHistories.{never_over}
use Rattle.race_verdicts.proofs.race_completeness.laws.rounds_are_enough.Goals as goal

pub returns : goal.returns
returns c = never_over automaton_in IsFeasibleFor
