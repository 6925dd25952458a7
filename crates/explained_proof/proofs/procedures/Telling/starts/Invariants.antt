use Rattle.std.proofs.Common.{◌≡◌, take}
use Rattle.std.specs.Prelude.{filter}
use Rattle.explained_proof.specs.Explained as spec
use Rattle.explained_proof.specs.Ties.Views as view
use Rattle.explained_proof.proofs.procedures.Telling.starts.Given as goal

abbrev pub invariant-loop-node : goal.invariant-loop-node
invariant-loop-node l = l.nodes.items ≡ filter (spec.has_no_predicate (view.told l.self).known) (take l.node-index l.node-items)
