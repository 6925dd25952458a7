use Rattle.std.proofs.Common.{refl}
use Rattle.rank_lasso.proofs.LassoTurns.MadeLaws.{writes_on}
use Rattle.rank_lasso.proofs.lasso_turns.made.write_from.Goals as goal

pub loop-i-preserved : goal.loop-i-preserved
loop-i-preserved c = writes_on c.args.here.now c.loop-i.here c.args.written.now c.args.from c.loop-i.i _ 0 c.loop-i-test.true refl c.loop-i.invariant
