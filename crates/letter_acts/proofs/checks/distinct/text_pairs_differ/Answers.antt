use Rattle.letter_acts.specs.Invariant.{AreDistinct}
use Rattle.letter_acts.proofs.LoopLemmas.{refuted, plain_step, ended}
use Rattle.letter_acts.proofs.checks.distinct.text_pairs_differ.Goals as goal

pub loop-i-preserved : goal.loop-i-preserved
loop-i-preserved c =
    plain_step _ c.args.texts.now c.loop-i.i _ _ c.index-texts-i.is c.loop-i-test.true (refuted _ _ c.has_text.ensures c.if-has_text.false) c.loop-i.invariant

pub returns : goal.returns
returns c = ended AreDistinct _ c.args.texts.now c.loop-i.i c.loop-i-test.false tt c.loop-i.invariant
