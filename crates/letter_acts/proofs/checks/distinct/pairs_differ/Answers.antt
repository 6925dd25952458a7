use Rattle.std.proofs.Common.{refl}
use Rattle.letter_acts.specs.Invariant.{AreDistinct}
use Rattle.letter_acts.proofs.LoopLemmas.{refuted, plain_step, ended}
use Rattle.letter_acts.proofs.checks.distinct.pairs_differ.Goals as goal

pub loop-i-preserved : goal.loop-i-preserved
loop-i-preserved c =
    plain_step _ c.args.numbers.now c.loop-i.i _ 0 refl c.loop-i-test.true (refuted _ _ c.has_number.ensures c.if-has_number.false) c.loop-i.invariant

pub returns : goal.returns
returns c = ended AreDistinct _ c.args.numbers.now c.loop-i.i c.loop-i-test.false tt c.loop-i.invariant
