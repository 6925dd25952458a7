use Rattle.std.proofs.Common.{◌≡◌, ◌++◌, map, take}
use Rattle.std.specs.List.{AllByRecursion}
use Rattle.fm_elim.specs.Columns.{pair, PairFits}
use Rattle.fm_elim.proofs.columns.push_pairs.Given as goal

abbrev pub invariant-loop-lower : goal.invariant-loop-lower
invariant-loop-lower l = record {
  value : l.rows.items ≡ l.initial.rows.items ++ map (pair l.column l.upper) (take l.lower-index l.lowers);
  fits : AllByRecursion (PairFits l.column l.upper) (take l.lower-index l.lowers);
}
