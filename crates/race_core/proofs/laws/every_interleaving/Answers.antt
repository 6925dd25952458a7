use Rattle.race_core.proofs.Interleaved.{sound_after_all}
use Rattle.race_core.proofs.laws.every_interleaving.Goals as goal

pub returns : goal.returns
returns g c = sound_after_all g.E.Evidence.automaton g.E.Evidence.feasible
