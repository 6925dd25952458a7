use Rattle.letter_acts.proofs.LoopLemmas.{refuted}
use Rattle.letter_acts.proofs.LayoutLemmas.{globals_short, globals_stop, globals_step, globals_end}
use Rattle.letter_acts.proofs.checks.frames.starts_with_globals.Goals as goal

pub returns-then-i-frame : goal.returns-then-i-frame
returns-then-i-frame c = globals_short c.args.heads.now c.args.frame.now _ _ c.loop-i.i c.if-i-frame.true c.loop-i-test.true c.loop-i.invariant

pub returns-then-not-is_global_of : goal.returns-then-not-is_global_of
returns-then-not-is_global_of c =
    globals_stop c.args.heads.now c.args.frame.now _ _ c.loop-i.i _ _ c.index-frame-i.is c.if-i-frame.false c.index-heads-i.is c.loop-i-test.true
    (refuted _ _ c.is_global_of.ensures c.if-not-is_global_of.true)
    c.loop-i.invariant

pub loop-i-preserved : goal.loop-i-preserved
loop-i-preserved c =
    globals_step c.args.heads.now c.args.frame.now _ _ c.loop-i.i _ _ c.index-frame-i.is c.if-i-frame.false c.index-heads-i.is c.loop-i-test.true
    (c.is_global_of.ensures.0 c.if-not-is_global_of.false)
    c.loop-i.invariant

pub returns : goal.returns
returns c = globals_end c.args.heads.now c.args.frame.now _ c.loop-i.i c.loop-i.auto.i-end c.loop-i-test.false c.loop-i.invariant
