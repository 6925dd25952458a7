use Rattle.std.proofs.Common.{refl}
use Rattle.rank_lasso.proofs.LassoRanks.WalkSets.{walk_goes, walk_ends}
use Rattle.rank_lasso.proofs.lasso_ranks.placing.walked.Goals as goal

pub loop-letter-preserved : goal.loop-letter-preserved
loop-letter-preserved c =
    walk_goes _ _ _ _ _ c.loop-letter.letter-index _ 0 c.loop-letter-test.true refl (rw (c.deref.ensures.value, c.inside_letter.ensures) at c.in_ok-now.ensures) c.loop-letter.invariant

pub returns : goal.returns
returns c = walk_ends _ _ _ _ c.loop-letter.letter-index c.loop-letter-test.false c.loop-letter.invariant
