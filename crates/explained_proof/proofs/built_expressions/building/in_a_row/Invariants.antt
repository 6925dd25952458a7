use Rattle.std.proofs.Common.{◌≡◌, ◌++◌, map}
use Rattle.std.specs.Option.{option_map}
use Rattle.boogie_tree.specs.View as view
use Rattle.explained_proof.specs.BuiltExpressions.Building as spec
use Rattle.explained_proof.proofs.built_expressions.building.in_a_row.Given as goal

abbrev pub invariant-loop-part : goal.invariant-loop-part
invariant-loop-part l = record {
  whole : option_map view.expression l.whole ≡ spec.row_of l.op (map view.expression l.yielded);
  all : l.yielded ++ l.part-iterator.rest.items ≡ l.fn.parts.items;
}
