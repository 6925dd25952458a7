use Rattle.nwa_base.proofs.StateLemmas.{one_more}
use Rattle.nwa_base.proofs.automata.Nwa.add_state.Goals as goal

pub invariant_of-self : goal.invariant_of-self
invariant_of-self c = one_more _ c.self.invariant
