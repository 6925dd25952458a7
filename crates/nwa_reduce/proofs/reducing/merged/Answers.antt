use Rattle.nwa_reduce.proofs.reducing.merged.Goals as goal

pub returns : goal.returns
returns c = c.in_ok-merge.ensures
