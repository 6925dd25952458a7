use Rattle.std.proofs.Common.{arith}
use Rattle.proof_form.proofs.AscentLaws.{ascends, last_reached}
use Rattle.proof_form.proofs.line_checks.ascend.Goals as goal

pub loop-i-preserved : goal.loop-i-preserved
loop-i-preserved c =
    ascends c.args.numerals.now c.loop-i.i c.index-numerals-i.result c.index-numerals-i-in-loop-i.result _ (omega arith) c.loop-i-test.true
    c.index-numerals-i.is c.index-numerals-i-in-loop-i.is c.if-not-is_below.ensures c.loop-i.invariant

pub returns : goal.returns
returns c = last_reached c.args.numerals.now c.loop-i.i _ (omega arith) c.loop-i.invariant
