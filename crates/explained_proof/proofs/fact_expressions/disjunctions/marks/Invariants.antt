use Rattle.std.proofs.Common.{◌≡◌, ◌++◌, map, drop}
use Rattle.explained_proof.specs.FactExpressions.Disjunctions as spec
use Rattle.explained_proof.specs.FactExpressions.Views as view
use Rattle.explained_proof.proofs.fact_expressions.disjunctions.marks.Given as goal

abbrev pub invariant-loop-number : goal.invariant-loop-number
invariant-loop-number l =
    l.list.items ++ spec.marks_from (map view.facts l.facts) l.number (map view.facts (drop l.number l.facts)) ≡ spec.marks_from (map view.facts l.facts) 0 (map view.facts l.facts)
