use Rattle.std.proofs.Common.{◌≡◌, take}
use Rattle.std.specs.List.{AllByRecursion}
use Rattle.fm_elim.specs.Columns.{cleared, ClearedFits}
use Rattle.fm_elim.proofs.Written.{written}
use Rattle.fm_elim.proofs.columns.all_cleared.Given as goal

abbrev pub invariant-loop-row : goal.invariant-loop-row
invariant-loop-row l = record {
  value : l.row-items ≡ written (cleared l.column l.equality) l.row-index l.fn.rows.items;
  fits : AllByRecursion (ClearedFits l.column l.equality) (take l.row-index l.fn.rows.items);
}
