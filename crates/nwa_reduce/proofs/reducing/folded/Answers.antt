use Rattle.nwa_reduce.proofs.ReduceLemmas.{reduced_none}
use Rattle.nwa_reduce.proofs.reducing.folded.Goals as goal

pub returns-in-None : goal.returns-in-None
returns-in-None c = (reduced_none c.args.nwa, c.requires)
