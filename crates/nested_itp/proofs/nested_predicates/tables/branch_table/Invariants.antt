use Rattle.std.proofs.Common.{map}
use Rattle.farkas_check.specs.Nodes.{plain_nodes}
use Rattle.nested_itp.proofs.NestedPredicates.TableLaws.{TableRead}
use Rattle.nested_itp.proofs.nested_predicates.tables.branch_table.Given as goal

abbrev pub invariant-loop-i : goal.invariant-loop-i
invariant-loop-i l = TableRead l.icfg l.path.word (plain_nodes l.nodes) l.i l.branches (map (λ v. v.items) l.table.items)
