use Rattle.nwa_base.proofs.MemberLemmas.{any_pair}
use Rattle.nwa_base.proofs.pairs.holds.Goals as goal

pub returns : goal.returns
returns c = any_pair _ _ _ c.contains.ensures.value
