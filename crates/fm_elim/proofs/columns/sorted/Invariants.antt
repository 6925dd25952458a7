use Rattle.std.proofs.Common.{◌≡◌, [], ◌++◌}
use Rattle.fm_elim.specs.Columns.{AreSides}
use Rattle.fm_elim.proofs.columns.sorted.Given as goal

abbrev pub invariant-loop-row : goal.invariant-loop-row
invariant-loop-row l = record {
  sides : AreSides l.column l.yielded [] [] [] l.sides.without.items l.sides.lowers.items l.sides.uppers.items;
  all : l.yielded ++ l.row-iterator.rest.items ≡ l.fn.rows.items;
}
