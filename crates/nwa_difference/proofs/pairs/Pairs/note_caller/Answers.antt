use Rattle.nwa_difference.specs.Ties.Seen.{found}
use Rattle.nwa_difference.proofs.PairLemmas.{value_added}
use Rattle.nwa_difference.proofs.pairs.Pairs.note_caller.Goals as goal

pub returns-clause-groups : goal.returns-clause-groups
unfolding found
returns-clause-groups c = value_added c.args.state c.args.entry _ _ c.in_ok-add.ensures.ok
