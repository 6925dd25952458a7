use Rattle.std.proofs.Common.{◌∙◌, List, map, drop, ap}
use Rattle.explained_proof.specs.RowExpressions.Options.{passes}
use Rattle.explained_proof.specs.declared.fact_expressions.conjunctions.Conjunction.{Conjunction}
use Rattle.explained_proof.specs.FactExpressions.Conclusions as spec
use Rattle.explained_proof.specs.FactExpressions.Views as view
use Rattle.explained_proof.proofs.FactExpressions.RangeLaws.{range_from}
use Rattle.explained_proof.proofs.FactExpressions.SayingLaws.{covered_at}
use Rattle.explained_proof.proofs.fact_expressions.saying.first_is_covered.Goals as goal

pub returns-in-Some : goal.returns-in-Some
returns-in-Some c =
    c.covers_rest.ensures ∙ ap (λ (ds : List Conjunction). spec.covers_rest (map view.facts ds) c.in-Some.row.now) (range_from c.args.facts.now c.args.place) ∙ ap (passes (spec.covers_rest (map view.facts (drop c.args.place c.args.facts.now)))) c.in-Some.ensures ∙
    covered_at c.args.facts.now c.args.place c.index-facts-place.result c.requires c.index-facts-place.is

pub returns-in-None : goal.returns-in-None
returns-in-None c =
    ap (passes (spec.covers_rest (map view.facts (drop c.args.place c.args.facts.now)))) c.in-None.ensures ∙
    covered_at c.args.facts.now c.args.place c.index-facts-place.result c.requires c.index-facts-place.is
