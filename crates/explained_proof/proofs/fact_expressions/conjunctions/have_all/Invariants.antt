use Rattle.std.proofs.Common.{◌≡◌, true, map, take}
use Rattle.std.specs.List.{list_all}
use Rattle.explained_proof.specs.FactExpressions.Facts as spec
use Rattle.explained_proof.specs.FactExpressions.Views as view
use Rattle.explained_proof.proofs.fact_expressions.conjunctions.have_all.Given as goal

abbrev pub invariant-loop-other : goal.invariant-loop-other
invariant-loop-other l = list_all (spec.has_cases (map view.tree l.cases)) (map view.tree (take l.other-index l.others)) ≡ true
