use Rattle.std.proofs.Common.{◌≡◌, ◌++◌, drop}
use Rattle.nested_itp.specs.NestedPredicates.Tables.{cut_nodes_from}
use Rattle.nested_itp.proofs.nested_predicates.tables.cut_nodes.Given as goal

abbrev pub invariant-loop-position : goal.invariant-loop-position
invariant-loop-position l = l.nodes.items ++ cut_nodes_from l.position l.stamp (drop l.position l.spots) ≡ cut_nodes_from 0 l.stamp l.spots
