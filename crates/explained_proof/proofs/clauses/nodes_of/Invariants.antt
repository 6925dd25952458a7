use Rattle.std.proofs.Common.{◌≡◌, map, take}
use Rattle.explained_proof.proofs.clauses.nodes_of.Given as goal

abbrev pub invariant-loop-entered : goal.invariant-loop-entered
invariant-loop-entered l = l.nodes.items ≡ map (λ e. e.node) (take l.entered-index l.entries)
