use Rattle.std.proofs.Common.{◌≡◌, map, drop}
use Rattle.explained_proof.specs.FactExpressions.Conclusions as spec
use Rattle.explained_proof.specs.FactExpressions.Views as view
use Rattle.explained_proof.proofs.fact_expressions.saying.are_all.Given as goal

abbrev pub invariant-loop-place : goal.invariant-loop-place
invariant-loop-place l = spec.are_all (drop l.place (map view.facts l.facts)) ≡ spec.are_all (map view.facts l.facts)
