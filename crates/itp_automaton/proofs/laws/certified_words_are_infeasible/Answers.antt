use Rattle.itp_automaton.proofs.CertifiedLaws.{infeasible}
use Rattle.itp_automaton.proofs.laws.certified_words_are_infeasible.Goals as goal

pub returns : goal.returns
returns c = infeasible
