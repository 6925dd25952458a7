use Rattle.std.proofs.Common.{◌∙◌}
use Rattle.nwa_base.proofs.NumberHashLemmas.{after_u64}
use Rattle.nwa_base.proofs.number_hasher.NumberHasherHasher.write_usize.Goals as goal

pub returns : goal.returns
returns c = λ i. record { state = (c.mixed-self.ensures ∙ after_u64 c.args.self.now.state c.args.i c.ranges.i.fits) i }
