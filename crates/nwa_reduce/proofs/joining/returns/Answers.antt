use Rattle.nwa_reduce.proofs.JoinLemmas.{returns_of}
use Rattle.nwa_reduce.proofs.joining.returns.Goals as goal

pub returns : goal.returns
returns c = returns_of c.args.nwa.now c.args.state _ _ c.backs_leaving.ensures c.is_empty.ensures
