use Rattle.std.proofs.Common.{◌≡◌, ◌++◌, map, take}
use Rattle.explained_proof.specs.Explained as spec
use Rattle.explained_proof.proofs.procedures.add_entered.Given as goal

abbrev pub invariant-loop-node : goal.invariant-loop-node
invariant-loop-node l = l.entries.items ≡ l.initial.entries.items ++ map (spec.entered l.is_premise) (take l.node-index l.nodes)
