use Rattle.nwa_difference.specs.Ties.Seen.{found}
use Rattle.nwa_difference.proofs.PairLemmas.{value_added}
use Rattle.nwa_difference.proofs.pairs.Pairs.note_exit.Goals as goal

pub returns-clause-groups : goal.returns-clause-groups
unfolding found
returns-clause-groups c = value_added c.args.entry c.args.state _ _ c.in_ok-add.ensures.ok
