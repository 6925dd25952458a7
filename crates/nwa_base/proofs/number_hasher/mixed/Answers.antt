use Rattle.std.proofs.Common.{refl}
use Rattle.nwa_base.specs.NumberHashes.{mixed}
use Rattle.nwa_base.proofs.number_hasher.mixed.Goals as goal

pub returns : goal.returns
unfolding mixed
returns c = refl
