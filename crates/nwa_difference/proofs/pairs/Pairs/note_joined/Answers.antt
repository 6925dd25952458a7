use Rattle.nwa_difference.specs.Ties.Seen.{found}
use Rattle.nwa_difference.proofs.PairLemmas.{key_added, key_told, test_pairs}
use Rattle.nwa_difference.proofs.pairs.Pairs.note_joined.Goals as goal

pub returns-clause-adds : goal.returns-clause-adds
unfolding found
returns-clause-adds c = key_added _ _ _ _ test_pairs c.in_ok-is_new.ensures.keys

pub returns-clause-tells : goal.returns-clause-tells
unfolding found
returns-clause-tells c = key_told _ _ _ _ test_pairs c.in_ok-is_new.ensures.added
