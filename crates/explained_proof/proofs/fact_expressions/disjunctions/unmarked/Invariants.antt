use Rattle.std.proofs.Common.{◌≡◌, ◌++◌, length, map, drop}
use Rattle.explained_proof.specs.FactExpressions.Disjunctions as spec
use Rattle.explained_proof.specs.FactExpressions.Views as view
use Rattle.explained_proof.proofs.fact_expressions.disjunctions.unmarked.Given as goal

abbrev pub invariant-loop-fact : goal.invariant-loop-fact
invariant-loop-fact l = record {
  value : map view.facts l.list.items ++ spec.unmarked (drop l.number l.marks) (map view.facts l.fact-iterator.rest.items) ≡ spec.unmarked l.marks (map view.facts l.fn.facts.items);
  place : l.number ≡ length l.yielded;
}
