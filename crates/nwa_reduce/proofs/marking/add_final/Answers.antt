use Rattle.nwa_reduce.proofs.MarkLemmas.{final_pushed}
use Rattle.nwa_reduce.proofs.marking.add_final.Goals as goal

pub returns-in_ok-push : goal.returns-in_ok-push
returns-in_ok-push c = final_pushed c.args.nwa.now c.args.state _ _ c.in_ok-push.ensures.items (c.is_final.ensures.0 c.if-is_final.true)
