use Rattle.std.proofs.Common.{◌∙◌, sym, ap}
use Rattle.letter_acts.proofs.LoopLemmas.{refuted}
use Rattle.letter_acts.proofs.LayoutLemmas.{locals_stop, locals_step, locals_end}
use Rattle.letter_acts.proofs.checks.frames.are_numbered_locals.Goals as goal

pub returns-then-not-is_local_number : goal.returns-then-not-is_local_number
returns-then-not-is_local_number c =
    locals_stop c.args.frame.now _ c.loop-i.i _ c.index-frame-i.is c.loop-i-test.true
    (λ e. refuted _ _ c.is_local_number.ensures c.if-not-is_local_number.true (sym (ap (λ x. x.0) c.index-frame-i.is) ∙ e))
    c.loop-i.invariant

pub loop-i-preserved : goal.loop-i-preserved
loop-i-preserved c =
    locals_step c.args.frame.now _ c.loop-i.i _ c.index-frame-i.is c.loop-i-test.true
    (ap (λ x. x.0) c.index-frame-i.is ∙ c.is_local_number.ensures.0 c.if-not-is_local_number.false)
    c.loop-i.invariant

pub returns : goal.returns
returns c = locals_end c.args.frame.now _ c.loop-i.i c.loop-i-test.false c.loop-i.invariant
