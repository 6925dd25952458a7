use Rattle.std.proofs.Common.{◌≡◌, map, take}
use Rattle.std.specs.Prelude.{filter}
use Rattle.std.specs.List.{list_all}
use Rattle.explained_proof.specs.FactExpressions.Facts as facts
use Rattle.explained_proof.specs.FactExpressions.Views as view
use Rattle.explained_proof.proofs.fact_expressions.disjunctions.shared_cases.Given as goal

abbrev pub invariant-loop-tree : goal.invariant-loop-tree
invariant-loop-tree l = map view.tree l.list.items ≡ filter (λ f. list_all (λ d. facts.has_cases d.cases f) (map view.facts l.facts)) (map view.tree (take l.tree-index l.cases))
