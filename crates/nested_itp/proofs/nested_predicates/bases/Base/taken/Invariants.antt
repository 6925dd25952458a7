use Rattle.std.proofs.Common.{◌≡◌, ◌++◌, map, drop}
use Rattle.std.specs.List.{AllByRecursion}
use Rattle.nested_itp.specs.NestedPredicates.Wides.{value_of, HasRoom}
use Rattle.nested_itp.specs.NestedPredicates.Positions.{known_columns}
use Rattle.nested_itp.specs.NestedPredicates.Bases.{known_value}
use Rattle.nested_itp.proofs.nested_predicates.bases.Base.taken.Given as goal

abbrev pub invariant-loop-j : goal.invariant-loop-j
invariant-loop-j l = record {
  numbers : map value_of l.columns.items ++ map (known_value l.running.columns.items) (known_columns (drop l.j l.callee) (drop l.j l.entry) l.before) ≡
      map (known_value l.running.columns.items) (known_columns l.callee l.entry l.before);
  room : AllByRecursion HasRoom l.columns.items;
}
