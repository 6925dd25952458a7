use Rattle.math_facts.specs.Terms.{coefficient}
use Rattle.cond_jumps.specs.LongView.{long}
use Rattle.cond_jumps.specs.Ties.Totals.{terms_of}
use Rattle.cond_jumps.proofs.TotalLemmas.{sum_one}
use Rattle.cond_jumps.proofs.TotalTurns.{total_begun, total_ended}
use Rattle.cond_jumps.proofs.totals.total.Goals as goal

pub loop-term-init : goal.loop-term-init
loop-term-init c = total_begun (long c.in_ok-sum.sum) (coefficient c.args.column (terms_of c.args.terms.now)) c.in_ok-sum.ensures

pub loop-term-preserved : goal.loop-term-preserved
loop-term-preserved c =
    sum_one c.args.column c.args.terms.now c.term-item.result c.loop-term.term-index (long c.loop-term.sum) (long c.in_ok-sum-2.sum)
    (coefficient c.args.column (terms_of c.args.terms.now)) c.loop-term-test.true c.term-item.is c.loop-term.invariant c.in_ok-sum-2.ensures

pub returns : goal.returns
returns c =
    total_ended c.args.column c.args.terms.now c.loop-term.term-index (long c.loop-term.sum) (coefficient c.args.column (terms_of c.args.terms.now)) c.loop-term-test.false c.loop-term.invariant
