use Rattle.std.proofs.Common.{◌≡◌, length}
use Rattle.triple_rows.specs.Predicates.{formulas}
use Rattle.explained_proof.specs.FactExpressions.Facts as spec
use Rattle.explained_proof.specs.FactExpressions.Trees.{SpellsSome}
use Rattle.explained_proof.specs.FactExpressions.Views as view
use Rattle.explained_proof.proofs.fact_expressions.conjunctions.Conjunction.add_nodes.Given as goal

abbrev pub invariant-loop-rest : goal.invariant-loop-rest
invariant-loop-rest l = record {
  value : spec.facts_from (formulas l.rest) (view.facts l.self) ≡ spec.facts_from (formulas l.nodes) (view.facts l.initial.self);
  spelled : SpellsSome l.rest;
}

abbrev pub decreases-loop-rest : goal.decreases-loop-rest
decreases-loop-rest l = length l.rest
