use Rattle.std.proofs.Common.{arith}
use Rattle.letter_acts.proofs.SiteLemmas.{ascending_differ, ascend_step}
use Rattle.letter_acts.proofs.checks.distinct.ascend.Goals as goal

pub loop-i-preserved : goal.loop-i-preserved
loop-i-preserved c = ascend_step c.args.numbers.now c.loop-i.i c.loop-i.auto.i c.if-numbers-i.false c.loop-i.invariant

pub returns : goal.returns
returns c = λ e. ascending_differ c.args.numbers.now (λ k l. c.loop-i.invariant k (omega (arith, l, c.loop-i-test.false)))
