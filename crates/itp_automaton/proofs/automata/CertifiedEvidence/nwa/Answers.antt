use Rattle.itp_automaton.proofs.CertifiedLaws.{infeasible}
use Rattle.itp_automaton.proofs.automata.CertifiedEvidence.nwa.Goals as goal

pub returns-clause-infeasible : goal.returns-clause-infeasible
returns-clause-infeasible c = λ w accepted feasible. infeasible feasible.0 c.args.self.now feasible.1 w accepted feasible.2
