use Rattle.std.proofs.Common.{◌≡◌, map, take}
use Rattle.lin_rows.specs.Tightening.{tightened}
use Rattle.rank_lasso.proofs.ranking_system.system.tightened_rows.Given as goal

abbrev pub invariant-loop-row : goal.invariant-loop-row
invariant-loop-row l = l.tight.items ≡ map tightened (take l.row-index l.rows)
