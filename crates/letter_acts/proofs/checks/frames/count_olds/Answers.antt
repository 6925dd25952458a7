use Rattle.std.proofs.Common.{◌∙◌, ℕ, ◌+◌, sym, ap, subst, arith}
use Rattle.letter_acts.proofs.LoopLemmas.{refuted, one_member}
use Rattle.letter_acts.proofs.LayoutLemmas.{OldsLeft, olds_short, olds_stop, olds_take, olds_skip, olds_end}
use Rattle.letter_acts.proofs.checks.frames.count_olds.Goals as goal
use Rattle.letter_acts.proofs.checks.frames.count_olds.Goals.{then-not-heads-i+else-count-frame+else-not-is_old_of, else-not-heads-i}

pub returns-then-count-frame : goal.returns-then-count-frame
returns-then-count-frame c =
    olds_short c.args.heads.now c.args.frame.now c.loop-i.count c.loop-i.i _ c.if-count-frame.true c.index-heads-i.is c.loop-i-test.true
    (ap (λ h. h.1.constant) c.index-heads-i.is ∙ c.if-not-heads-i.true)
    c.loop-i.invariant.1

pub returns-then-not-is_old_of : goal.returns-then-not-is_old_of
returns-then-not-is_old_of c =
    let heads = c.args.heads.now in
    let same = one_member heads c.loop-i.i c.index-heads-i-then-not-heads-i.result c.index-heads-i.result c.loop-i-test.true c.index-heads-i-then-not-heads-i.is c.index-heads-i.is in
    olds_stop heads c.args.frame.now c.loop-i.count c.loop-i.i _ _ c.index-frame-count.is c.if-count-frame.false c.index-heads-i-then-not-heads-i.is c.loop-i-test.true
    (ap (λ h. h.1.constant) (same ∙ c.index-heads-i.is) ∙ c.if-not-heads-i.true)
    (refuted _ _ c.is_old_of.ensures c.if-not-is_old_of.true)
    c.loop-i.invariant.1

pub loop-i-preserved : goal.loop-i-preserved
loop-i-preserved c =
    let heads = c.args.heads.now in
    let frame = c.args.frame.now in
    let Left : ℕ → Type 0 = λ n. OldsLeft heads frame n (c.loop-i.i + 1) in
    elim c.if-not-heads-i.branch [
      | then-not-heads-i+else-count-frame+else-not-is_old_of w ↦
          let same = one_member heads c.loop-i.i w.index-heads-i-then-not-heads-i.result c.index-heads-i.result c.loop-i-test.true w.index-heads-i-then-not-heads-i.is c.index-heads-i.is in (
            omega arith,
            subst Left (sym w.count-is)
                (olds_take heads frame c.loop-i.count c.loop-i.i _ _ w.index-frame-count.is w.if-count-frame.false w.index-heads-i-then-not-heads-i.is c.loop-i-test.true
                (ap (λ h. h.1.constant) (same ∙ c.index-heads-i.is) ∙ w.if-not-heads-i.true)
                (w.is_old_of.ensures.0 w.if-not-is_old_of.false)
                c.loop-i.invariant.1),
          )
      | else-not-heads-i w ↦ (
        omega arith,
        subst Left (sym w.count-is)
            (olds_skip heads frame c.loop-i.count c.loop-i.i _ c.index-heads-i.is c.loop-i-test.true (ap (λ h. h.1.constant) c.index-heads-i.is ∙ w.if-not-heads-i.false) c.loop-i.invariant.1),
      )
    ]

pub returns : goal.returns
returns c = (c.loop-i.invariant.0, olds_end c.args.heads.now c.args.frame.now c.loop-i.count c.loop-i.i c.loop-i-test.false c.loop-i.invariant.1)
