use Rattle.nwa_reduce.proofs.ReduceLemmas.{reduced_on, reduced_none}
use Rattle.nwa_reduce.proofs.reducing.trim.Goals as goal

pub loop-smaller-init : goal.loop-smaller-init
loop-smaller-init c = reduced_none c.args.kept.now

pub loop-smaller-preserved : goal.loop-smaller-preserved
loop-smaller-preserved c =
    let h = rw c.in-Some.is at c.in_ok-smaller.ensures in
    reduced_on c.args.kept.now c.loop-smaller.kept c.in-Some.smaller c.loop-smaller.invariant h.0
