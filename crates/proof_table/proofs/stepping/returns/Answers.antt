use Rattle.proof_table.proofs.ReturnTests.{tests_next}
use Rattle.proof_table.proofs.stepping.returns.Goals as goal

pub loop-i-preserved : goal.loop-i-preserved
loop-i-preserved c =
    tests_next c.args.letters.now c.loop-i.i c.loop-i.tests.items c.push.new.self.items c.has_return.result c.loop-i-test.true c.has_return.ensures
    c.in_ok-push.ensures.items c.loop-i.invariant
