use Rattle.std.proofs.Common.{[]}
use Rattle.rank_lasso.specs.RankingSystem.RankingSystem.{falls_at}
use Rattle.rank_lasso.proofs.RankingSystem.MakingLaws.{column_next}
use Rattle.rank_lasso.proofs.ranking_system.system.add_falls.Goals as goal

pub loop-column-preserved : goal.loop-column-preserved
loop-column-preserved c =
    column_next (falls_at (record { rows = []; columns = 0; before = c.args.before.now; after = c.args.after.now }) c.args.rows.now) c.loop-column.column
    c.args.made.now.items c.loop-column.made.items c.push.new.self.items c.in_ok-falls_at.field-0 c.loop-column.invariant c.in_ok-push.ensures.items c.in_ok-falls_at.ensures
