use Rattle.race_workers.proofs.KeptWords.KeptLaws.{published}
use Rattle.race_workers.proofs.kept_words.laws.kept_words_are_published.Goals as goal

pub returns : goal.returns
returns g c program kept next h e k a own n = published g.E.Evidence.automaton program kept next h e k a own n
