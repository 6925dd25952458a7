use Rattle.rank_lasso.proofs.AscendLaws.{begins}
use Rattle.rank_lasso.proofs.naming.ascend.Goals as goal

pub loop-term-init : goal.loop-term-init
loop-term-init c = begins c.args.terms.now
