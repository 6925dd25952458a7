use Rattle.nwa_reduce.proofs.ReduceLemmas.{reduced_on, reduced_none}
use Rattle.nwa_reduce.proofs.reducing.merge.Goals as goal

pub loop-smaller-init : goal.loop-smaller-init
loop-smaller-init c = record { reduced = reduced_none c.args.kept.now; trim = c.requires }

pub loop-smaller-preserved : goal.loop-smaller-preserved
loop-smaller-preserved c =
    let h = rw c.in-Some.is at c.in_ok-smaller.ensures in
    record { reduced = reduced_on c.args.kept.now c.loop-smaller.kept c.in-Some.smaller c.loop-smaller.invariant.reduced h.0; trim = h.1 }
