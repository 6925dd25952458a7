use Rattle.std.proofs.Common.{◌↔◌, drop}
use Rattle.farkas_check.specs.Nodes.{plain_nodes}
use Rattle.farkas_check.specs.Refutes.{Refute, Refutes}
use Rattle.farkas_check.specs.Walks.{goals_left}
use Rattle.farkas_check.proofs.checking.tree_refutes.Given as goal

abbrev pub invariant-loop-node : goal.invariant-loop-node
invariant-loop-node l = Refute (drop l.node-index (plain_nodes l.nodes)) (goals_left l.walk) ↔ Refutes (plain_nodes l.nodes) l.fn.system
