use Rattle.explained_proof.proofs.JumpLaws.{breaks_on, breaks_here, breaks_end}
use Rattle.explained_proof.proofs.backwards.+named_breaks.Goals as goal

pub some_breaks_to-loop-statement-preserved : goal.some_breaks_to-loop-statement-preserved
some_breaks_to-loop-statement-preserved t c =
    breaks_on c.args.name.now c.args.statements.now c.loop-statement.statement-index c.statement-item.result _ c.loop-statement-test.true c.statement-item.is c.loop-statement.invariant c.if-breaks_to.ensures

pub some_breaks_to-returns-then-breaks_to : goal.some_breaks_to-returns-then-breaks_to
some_breaks_to-returns-then-breaks_to t c =
    breaks_here c.args.name.now c.args.statements.now c.loop-statement.statement-index c.statement-item.result _ c.loop-statement-test.true c.statement-item.is c.loop-statement.invariant c.if-breaks_to.ensures

pub some_breaks_to-returns : goal.some_breaks_to-returns
some_breaks_to-returns t c = breaks_end c.args.name.now c.args.statements.now c.loop-statement.statement-index _ c.loop-statement-test.false c.loop-statement.invariant
