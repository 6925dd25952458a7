use Rattle.nwa_base.proofs.WayLemmas.{same_edges_accept}
use Rattle.nwa_base.proofs.laws.same_edges_accept.Goals as goal

pub returns : goal.returns
returns c = same_edges_accept
