use Rattle.std.proofs.Common.{◌≡◌, true, map, take}
use Rattle.std.specs.List.{list_all}
use Rattle.explained_proof.specs.FactExpressions.Facts as facts
use Rattle.explained_proof.specs.FactExpressions.Views as view
use Rattle.explained_proof.proofs.fact_expressions.disjunctions.all_have_row.Given as goal

abbrev pub invariant-loop-fact : goal.invariant-loop-fact
invariant-loop-fact l = list_all (λ d. facts.is_row d.rows l.row) (map view.facts (take l.fact-index l.facts)) ≡ true
