use Rattle.std.proofs.Common.{◌≡◌, ◌++◌, map, take}
use Rattle.lin_rows.specs.Tightening.{tightened}
use Rattle.farkas_check.proofs.walk.push_tightened.Given as goal

abbrev pub invariant-loop-row : goal.invariant-loop-row
invariant-loop-row l = l.rows.items ≡ l.initial.rows.items ++ map tightened (take l.row-index l.more.items)
