use Rattle.race_workers.proofs.KeptWords.KeptLaws.{kept_behind}
use Rattle.race_workers.proofs.kept_words.laws.kept_behind_entries.Goals as goal

pub returns : goal.returns
returns g c program kept next h e k n = kept_behind g.E.Evidence.automaton program kept next h e k n
