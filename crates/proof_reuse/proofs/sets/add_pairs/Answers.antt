use Rattle.std.proofs.Common.{refl}
use Rattle.proof_reuse.proofs.SetLaws.{inserts_none, inserts_more}
use Rattle.proof_reuse.proofs.sets.add_pairs.Goals as goal

pub loop-pair-init : goal.loop-pair-init
loop-pair-init c = inserts_none c.args.set.now.keys c.args.set.now.keys refl

pub loop-pair-preserved : goal.loop-pair-preserved
loop-pair-preserved c =
    inserts_more c.args.set.now.keys c.loop-pair.set.keys c.add_pair.new.set.keys c.loop-pair.yielded c.in-Some.pair c.loop-pair.invariant c.in_ok-add_pair.ensures
