use Rattle.std.proofs.Common.{pos}
use Rattle.int_decide.proofs.SizeLaws.{term_below_more, term_not_below}
use Rattle.int_decide.proofs.measuring.is_below.Goals as goal

pub returns-then-column-columns : goal.returns-then-column-columns
returns-then-column-columns c =
    rw c.terms-column-items.ensures.value at
    (term_not_below c.args.columns c.terms-column-items.result.now c.loop-column.column-index (0, pos 0) c.loop-column-test.true c.if-column-columns.true)

pub loop-column-preserved : goal.loop-column-preserved
loop-column-preserved c =
    term_below_more c.args.columns c.terms-column-items.result.now c.loop-column.column-index (0, pos 0) c.loop-column-test.true c.loop-column.invariant c.if-column-columns.false
