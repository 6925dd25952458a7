use Rattle.nwa_difference.specs.Ties.Seen.{found}
use Rattle.nwa_difference.proofs.PairLemmas.{key_added, test_entries}
use Rattle.nwa_difference.proofs.pairs.Pairs.add.Goals as goal

pub returns-clause-adds : goal.returns-clause-adds
unfolding found
returns-clause-adds c = key_added _ _ _ _ test_entries c.in_ok-insert.ensures.keys
