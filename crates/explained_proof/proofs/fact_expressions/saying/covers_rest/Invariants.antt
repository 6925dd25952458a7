use Rattle.std.proofs.Common.{◌≡◌, false, map, take}
use Rattle.std.specs.List.{list_any}
use Rattle.explained_proof.specs.FactExpressions.Conclusions as spec
use Rattle.explained_proof.specs.FactExpressions.Views as view
use Rattle.explained_proof.specs.RowExpressions.Options.{passes}
use Rattle.explained_proof.specs.FactExpressions.EntryRows.{cover_all}
use Rattle.explained_proof.proofs.fact_expressions.saying.covers_rest.Given as goal

abbrev pub invariant-loop-fact : goal.invariant-loop-fact
invariant-loop-fact l = list_any (λ c. passes (cover_all l.row) (spec.row_alone c)) (map view.facts (take l.fact-index l.facts)) ≡ false
