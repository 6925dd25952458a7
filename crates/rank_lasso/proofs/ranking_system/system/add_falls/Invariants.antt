use Rattle.std.proofs.Common.{◌≡◌, [], ◌++◌, map}
use Rattle.letter_acts.specs.FrameRows.Rows.{columns_from}
use Rattle.rank_lasso.specs.RankingSystem.RankingSystem.{falls_at}
use Rattle.rank_lasso.proofs.ranking_system.system.add_falls.Given as goal

abbrev pub invariant-loop-column : goal.invariant-loop-column
invariant-loop-column l =
    l.made.items ≡ l.initial.made.items ++ map (falls_at (record { rows = []; columns = 0; before = l.before; after = l.after }) l.rows) (columns_from 0 l.column)
