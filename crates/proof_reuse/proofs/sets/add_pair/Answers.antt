use Rattle.nwa_difference.proofs.PairLemmas.{test_pairs}
use Rattle.proof_reuse.proofs.SetLaws.{inserted}
use Rattle.proof_reuse.proofs.sets.add_pair.Goals as goal

pub returns : goal.returns
returns c = inserted _ _ _ _ test_pairs c.in_ok-insert.ensures.keys
