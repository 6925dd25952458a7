use Rattle.std.proofs.Common.{◌≡◌, ◌++◌}
use Rattle.std.specs.List.{AllByRecursion, flat_map}
use Rattle.fm_elim.specs.Columns.{halves, HalvesFit}
use Rattle.fm_elim.proofs.columns.all_halved.Given as goal

abbrev pub invariant-loop-row : goal.invariant-loop-row
invariant-loop-row l = record {
  value : l.list.items ≡ flat_map (halves l.column) l.yielded;
  fits : AllByRecursion (HalvesFit l.column) l.yielded;
  all : l.yielded ++ l.row-iterator.rest.items ≡ l.fn.rows.items;
}
