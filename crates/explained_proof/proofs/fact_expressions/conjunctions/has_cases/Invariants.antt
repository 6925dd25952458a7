use Rattle.std.proofs.Common.{◌≡◌, false, map, take}
use Rattle.std.specs.List.{list_any}
use Rattle.explained_proof.specs.FactExpressions.Views as view
use Rattle.explained_proof.specs.FactExpressions.Trees.{same_formula}
use Rattle.explained_proof.proofs.fact_expressions.conjunctions.has_cases.Given as goal

abbrev pub invariant-loop-other : goal.invariant-loop-other
invariant-loop-other l = list_any (λ g. same_formula g (view.tree l.tree)) (map view.tree (take l.other-index l.cases)) ≡ false
