use Rattle.std.proofs.Common.{◌≡◌, map, take}
use Rattle.explained_proof.specs.FactExpressions.Views as facts
use Rattle.explained_proof.specs.Known.{known_at}
use Rattle.explained_proof.specs.Ties.Views as view
use Rattle.explained_proof.proofs.clauses.facts_of.Given as goal

abbrev pub invariant-loop-node : goal.invariant-loop-node
invariant-loop-node l = map facts.facts l.list.items ≡ map (known_at (view.known l.knowledge)) (take l.node-index l.nodes)
