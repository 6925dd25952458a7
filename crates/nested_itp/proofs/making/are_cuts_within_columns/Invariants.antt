use Rattle.std.proofs.Common.{take}
use Rattle.std.specs.List.{AllByRecursion}
use Rattle.farkas_check.specs.Nodes.{plain_nodes}
use Rattle.triple_rows.specs.Cuts.{IsCutWithin}
use Rattle.nested_itp.proofs.making.are_cuts_within_columns.Given as goal

abbrev pub invariant-loop-node : goal.invariant-loop-node
invariant-loop-node l = AllByRecursion (IsCutWithin l.columns) (plain_nodes (take l.node-index l.nodes))
