use Rattle.std.proofs.Common.{◌≡◌, map, take}
use Rattle.explained_proof.specs.FactExpressions.Disjunctions as spec
use Rattle.explained_proof.specs.FactExpressions.Views as view
use Rattle.explained_proof.proofs.fact_expressions.disjunctions.rests.Given as goal

abbrev pub invariant-loop-fact : goal.invariant-loop-fact
invariant-loop-fact l = map view.facts l.list.items ≡ map (spec.less (view.facts l.shared)) (map view.facts (take l.fact-index l.facts))
