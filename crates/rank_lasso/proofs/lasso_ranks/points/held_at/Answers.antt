use Rattle.rank_lasso.proofs.lasso_ranks.points.held_at.Goals as goal

pub ranked_at-requires-clause-counted : goal.ranked_at-requires-clause-counted
ranked_at-requires-clause-counted c = c.if-values-tight.false

pub returns-in-Found-clause-found : goal.returns-in-Found-clause-found
returns-in-Found-clause-found c = rw c.in-Found.is at c.in_ok-ranking.ensures.found

pub returns-in-Found-clause-rank : goal.returns-in-Found-clause-rank
returns-in-Found-clause-rank c = λ e. cc

pub returns-in-Found-clause-number : goal.returns-in-Found-clause-number
returns-in-Found-clause-number c = λ e. cc
