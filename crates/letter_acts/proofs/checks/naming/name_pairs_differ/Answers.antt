use Rattle.letter_acts.specs.Invariant.{AreDistinct, names_where}
use Rattle.letter_acts.specs.Checks.{is_named_by}
use Rattle.letter_acts.proofs.LoopLemmas.{refuted, ended}
use Rattle.letter_acts.proofs.NamingLemmas.{differ_step, differ_stop}
use Rattle.letter_acts.proofs.checks.naming.name_pairs_differ.Goals as goal

pub returns-then-is_repeated : goal.returns-then-is_repeated
returns-then-is_repeated c =
    differ_stop (is_named_by c.args.global) _ c.args.frame.now c.loop-i.i _ _ c.index-frame-i.is c.loop-i-test.true (c.is_repeated.ensures.0 c.if-is_repeated.true) c.loop-i.invariant

pub loop-i-preserved : goal.loop-i-preserved
loop-i-preserved c =
    differ_step (is_named_by c.args.global) _ c.args.frame.now c.loop-i.i _ _ c.index-frame-i.is c.loop-i-test.true (refuted _ _ c.is_repeated.ensures c.if-is_repeated.false) c.loop-i.invariant

pub returns : goal.returns
returns c = ended (λ xs. AreDistinct (names_where (is_named_by c.args.global) xs)) _ c.args.frame.now c.loop-i.i c.loop-i-test.false tt c.loop-i.invariant
