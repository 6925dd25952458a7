use Rattle.std.proofs.Common.{◌∙◌, Some, sym, ap, arith}
use Rattle.nwa_reduce.specs.declared.marking.Mark.{Mark}
use Rattle.nwa_reduce.proofs.TestLemmas.{same_mark, mark_absent}
use Rattle.nwa_reduce.proofs.NumberLemmas.{numbered_none, numbered_more, numbered_all}
use Rattle.nwa_reduce.proofs.signing.numbered.Goals as goal

pub loop-mark-init : goal.loop-mark-init
loop-mark-init c = numbered_none _ _ c.new-numbers.ensures.items

pub loop-mark-preserved : goal.loop-mark-preserved
loop-mark-preserved c =
    let k = c.in_ok-number.ensures.stored in
    numbered_more _ _ c.loop-mark.table.keys _ _ _ _ _ _ c.in_ok-number.number c.loop-mark-test.true c.loop-mark.invariant
    (mark_absent c.loop-mark.table.keys _) c.in_ok-number.ensures.keys (k.1 ∙ ap (λ (z : Mark). Some z) (sym (same_mark _ k.0 k.2)))
    c.in_ok-push.ensures.items

pub returns : goal.returns
returns c = numbered_all _ _ _ c.loop-mark.mark-index _ (omega arith) c.loop-mark.invariant
