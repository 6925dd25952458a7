use Rattle.std.proofs.Common.{◌≡◌, not, map, take}
use Rattle.std.specs.Prelude.{filter}
use Rattle.explained_proof.specs.FactExpressions.Facts as facts
use Rattle.explained_proof.specs.FactExpressions.Views as view
use Rattle.explained_proof.proofs.fact_expressions.disjunctions.other_cases.Given as goal

abbrev pub invariant-loop-tree : goal.invariant-loop-tree
invariant-loop-tree l = map view.tree l.list.items ≡ filter (λ f. not (facts.has_cases (map view.tree l.shared) f)) (map view.tree (take l.tree-index l.cases))
