use Rattle.std.proofs.Common.{[]}
use Rattle.rank_lasso.specs.RankingSystem.RankingSystem.{bounded_at}
use Rattle.rank_lasso.proofs.RankingSystem.MakingLaws.{column_next}
use Rattle.rank_lasso.proofs.ranking_system.system.add_bounded.Goals as goal

pub loop-column-preserved : goal.loop-column-preserved
loop-column-preserved c =
    column_next (bounded_at (record { rows = []; columns = 0; before = c.args.before.now; after = [] }) c.args.rows.now) c.loop-column.column
    c.args.made.now.items c.loop-column.made.items c.push.new.self.items c.in_ok-bounded_at.field-0 c.loop-column.invariant c.in_ok-push.ensures.items c.in_ok-bounded_at.ensures
