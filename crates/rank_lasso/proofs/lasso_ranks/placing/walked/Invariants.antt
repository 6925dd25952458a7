use Rattle.std.proofs.Common.{drop}
use Rattle.rank_lasso.proofs.LassoRanks.WalkSets.{WalksOn}
use Rattle.rank_lasso.proofs.lasso_ranks.placing.walked.Given as goal

abbrev pub invariant-loop-letter : goal.invariant-loop-letter
invariant-loop-letter l = WalksOn l.nwa l.letters l.initial.now.items l.now.items (drop l.letter-index l.letters)
