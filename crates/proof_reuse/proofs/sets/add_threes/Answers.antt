use Rattle.std.proofs.Common.{refl}
use Rattle.proof_reuse.proofs.SetLaws.{inserts_none, inserts_more}
use Rattle.proof_reuse.proofs.sets.add_threes.Goals as goal

pub loop-three-init : goal.loop-three-init
loop-three-init c = inserts_none c.args.set.now.keys c.args.set.now.keys refl

pub loop-three-preserved : goal.loop-three-preserved
loop-three-preserved c =
    inserts_more c.args.set.now.keys c.loop-three.set.keys c.add_three.new.set.keys c.loop-three.yielded c.in-Some.three c.loop-three.invariant c.in_ok-add_three.ensures
