use Rattle.std.proofs.Common.{◌∙◌, fold, ap, arith}
use Rattle.std.proofs.lemmas.List.{take_all}
use Rattle.std.proofs.lemmas.Grind.{common_steps}
use Rattle.nwa_base.specs.NumberHashes.{mixed}
use Rattle.nwa_base.proofs.number_hasher.after_each.Goals as goal

pub loop-byte-preserved : goal.loop-byte-preserved
loop-byte-preserved c = grind (arith, common_steps, c.mixed-after.ensures, c.loop-byte.invariant)

pub returns : goal.returns
returns c = c.loop-byte.invariant ∙ ap (fold mixed c.args.state) (take_all c.loop-byte.byte-index c.args.bytes.now c.loop-byte-test.false)
