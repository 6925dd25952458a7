use Rattle.std.proofs.Common.{◌≡◌, ◌++◌, map, length}
use Rattle.triple_rows.specs.Predicates.{formulas}
use Rattle.explained_proof.specs.FactExpressions.Conclusions as spec
use Rattle.explained_proof.specs.FactExpressions.Facts as facts
use Rattle.explained_proof.specs.FactExpressions.Trees.{SpellsSome}
use Rattle.explained_proof.specs.FactExpressions.Views as view
use Rattle.explained_proof.proofs.fact_expressions.saying.part_facts.Given as goal

abbrev pub invariant-loop-left : goal.invariant-loop-left
invariant-loop-left l = record {
  value : map view.facts l.parts.items ++ map (λ g. facts.gathered g facts.no_facts) (formulas l.left) ≡ spec.part_facts (view.tree l.fn.tree);
  spelled : SpellsSome l.left;
}

abbrev pub decreases-loop-left : goal.decreases-loop-left
decreases-loop-left l = length l.left
