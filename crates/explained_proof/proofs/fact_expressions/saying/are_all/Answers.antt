use Rattle.std.proofs.Common.{◌∙◌, ◌<◌, length, map, sym, arith}
use Rattle.std.proofs.lemmas.List.{length-map}
use Rattle.explained_proof.specs.FactExpressions.Views as view
use Rattle.explained_proof.proofs.FactExpressions.SayingLaws.{all_next_place}
use Rattle.explained_proof.proofs.fact_expressions.saying.are_all.Goals as goal

pub loop-place-preserved : goal.loop-place-preserved
loop-place-preserved c =
    let l : c.loop-place.place < length (map view.facts c.args.facts.now) = omega (arith, c.loop-place-test.true, length-map c.args.facts.now view.facts) in
    all_next_place (map view.facts c.args.facts.now) c.loop-place.place l (sym c.if-first_is_covered.ensures) ∙ c.loop-place.invariant
