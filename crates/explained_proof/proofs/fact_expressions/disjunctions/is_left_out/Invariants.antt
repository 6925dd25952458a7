use Rattle.std.proofs.Common.{◌≡◌, map, drop}
use Rattle.explained_proof.specs.FactExpressions.Disjunctions as spec
use Rattle.explained_proof.specs.FactExpressions.Views as view
use Rattle.explained_proof.proofs.fact_expressions.disjunctions.is_left_out.Given as goal

abbrev pub invariant-loop-other : goal.invariant-loop-other
invariant-loop-other l = spec.is_covered_from l.other (map view.facts (drop l.other l.facts)) l.number (view.facts l.here) ≡ spec.is_covered_from 0 (map view.facts l.facts) l.number (view.facts l.here)
