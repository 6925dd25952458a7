use Rattle.proof_reuse.proofs.SetLaws.{inserted, test_threes}
use Rattle.proof_reuse.proofs.sets.add_three.Goals as goal

pub returns : goal.returns
returns c = inserted _ _ _ _ test_threes c.in_ok-insert.ensures.keys
