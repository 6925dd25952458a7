use Rattle.nwa_reduce.proofs.ReduceLemmas.{reduced_on}
use Rattle.nwa_reduce.proofs.reducing.trimmed.Goals as goal

pub returns : goal.returns
returns c = (
  reduced_on c.args.nwa.now c.in_ok-kept.kept c.trim.new.kept c.in_ok-kept.ensures c.in_ok-trim.ensures.0,
  c.in_ok-trim.ensures.1,
)
