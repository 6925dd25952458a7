use Rattle.nwa_emptiness.proofs.ClosedLemmas.{none_accepted}
use Rattle.nwa_emptiness.proofs.laws.closed_pairs_decide.Goals as goal

pub returns : goal.returns
returns c = none_accepted
