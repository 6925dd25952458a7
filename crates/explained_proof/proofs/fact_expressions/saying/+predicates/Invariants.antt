use Rattle.std.proofs.Common.{◌≡◌, ◌+◌, ◌*◌, ◌++◌, map, take, drop}
use Rattle.std.specs.List.{flat_map}
use Rattle.explained_proof.specs.BuiltExpressions.Members.{with_members}
use Rattle.explained_proof.specs.BuiltExpressions.Views.{conjuncts}
use Rattle.explained_proof.specs.RowExpressions.Views as scopes
use Rattle.explained_proof.specs.FactExpressions.Conclusions as spec
use Rattle.explained_proof.specs.FactExpressions.Views as view
use Rattle.explained_proof.proofs.fact_expressions.saying.+predicates.Given as goal

abbrev pub decreases-add_cases : goal.decreases-add_cases
decreases-add_cases l = 8 * l.depth

abbrev pub decreases-add_all_cases : goal.decreases-add_all_cases
decreases-add_all_cases l = 8 * l.depth + 1

abbrev pub decreases-fact_within : goal.decreases-fact_within
decreases-fact_within l = 8 * l.depth + 2

abbrev pub decreases-add_facts : goal.decreases-add_facts
decreases-add_facts l = 8 * l.depth + 3

abbrev pub decreases-add_rest : goal.decreases-add_rest
decreases-add_rest l = 8 * l.depth + 4

abbrev pub decreases-rests_said : goal.decreases-rests_said
decreases-rests_said l = 8 * l.depth + 5

abbrev pub decreases-said_within : goal.decreases-said_within
decreases-said_within l = 8 * l.depth + 6

abbrev pub invariant-add_all_cases-loop-tree : goal.invariant-add_all_cases-loop-tree
invariant-add_all_cases-loop-tree l =
    with_members (conjuncts l.members) (spec.all_of (map (λ t. spec.cases_said l.depth (scopes.scope l.scope) (view.tree t)) (drop l.tree-index l.trees))) ≡
    with_members (conjuncts l.initial.members) (spec.all_of (map (spec.cases_said l.depth (scopes.scope l.scope)) (map view.tree l.trees)))

abbrev pub invariant-add_facts-loop-fact : goal.invariant-add_facts-loop-fact
invariant-add_facts-loop-fact l =
    map conjuncts l.others.items ≡ map conjuncts l.initial.others.items ++
    map (spec.facts_with (spec.cases_said l.depth (scopes.scope l.scope)) (scopes.scope l.scope)) (map view.facts (take l.fact-index l.facts))

abbrev pub invariant-rests_said-loop-rest : goal.invariant-rests_said-loop-rest
invariant-rests_said-loop-rest l =
    map conjuncts l.others.items ≡
    map (spec.facts_with (spec.cases_said l.depth (scopes.scope l.scope)) (scopes.scope l.scope)) (flat_map (λ r. spec.rest_parts (view.facts r)) (take l.rest-index l.rests))
