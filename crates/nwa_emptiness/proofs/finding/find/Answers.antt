use Rattle.std.proofs.Common.{subst}
use Rattle.std.specs.Prelude.{IfOk}
use Rattle.nwa_base.specs.Automata.{Automaton}
use Rattle.nwa_emptiness.specs.Found.{IsFound}
use Rattle.nwa_emptiness.proofs.finding.find.Goals as goal

pub returns : goal.returns
returns c = subst (λ (m : Automaton). IfOk c.seek.result (IsFound m)) c.new-search.ensures.automaton c.seek.ensures
