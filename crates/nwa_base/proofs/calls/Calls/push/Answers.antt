use Rattle.nwa_base.proofs.EdgeLemmas.{entering_stays, drop_undoes}
use Rattle.nwa_base.proofs.calls.Calls.push.Goals as goal

pub invariant_of-self-in-Err : goal.invariant_of-self-in-Err
invariant_of-self-in-Err c =
    entering_stays _ _ _ _ c.self.invariant c.in-Err.ensures.err (drop_undoes c.args.edge.2 c.args.edge _ _ _ c.in_ok-add.ensures.ok c.drop_last.ensures)
