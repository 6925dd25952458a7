use Rattle.std.proofs.Common.{◌≡◌, ◌∙◌, ◌++◌, Bool, List, [], ◌∷◌, map, drop, refl, rules, sym, ap}
use Rattle.std.proofs.lemmas.List.{append-nil, nil_from_length}
use Rattle.explained_proof.specs.declared.fact_expressions.conjunctions.Conjunction.{Conjunction}
use Rattle.explained_proof.specs.FactExpressions.Disjunctions as spec
use Rattle.explained_proof.specs.FactExpressions.Views as view
use Rattle.explained_proof.proofs.fact_expressions.disjunctions.unmarked.Goals as goal

unmarked_none : (bs : List Bool) → spec.unmarked bs [] ≡ []
unmarked_none [] = refl
unmarked_none (b ∷ bs) = refl

pub returns : goal.returns
returns c =
    let L = map view.facts c.loop-fact.list.items in
    let bs = drop c.loop-fact.number c.args.marks.now in
    let none : c.loop-fact.fact-iterator.rest.items ≡ [] = nil_from_length _ (search rules) in
    sym (append-nil L) ∙ ap (λ xs. L ++ xs) (sym (unmarked_none bs)) ∙ ap (λ (rs : List Conjunction). L ++ spec.unmarked bs (map view.facts rs)) (sym none) ∙ c.loop-fact.invariant.value
