use Rattle.std.proofs.Common.{◌≡◌, ◌∙◌, ◌-◌, OnOk, map, sym, ap, subst}
use Rattle.std.specs.List.{flat_map}
use Rattle.std.proofs.lemmas.List.{take_all}
use Rattle.std.proofs.lemmas.List.Folds.{flat_map-map}
use Rattle.std.proofs.lemmas.Simd.{map-map}
use Rattle.boogie_tree.specs.View.{expression}
use Rattle.explained_proof.specs.BuiltExpressions.Members.{with_members}
use Rattle.explained_proof.specs.BuiltExpressions.Views.{conjuncts}
use Rattle.explained_proof.proofs.BuiltExpressions.Conjunctions.{with_none}
use Rattle.explained_proof.specs.RowExpressions.Scopes.{ClauseScope}
use Rattle.explained_proof.specs.RowExpressions.Views as scopes
use Rattle.explained_proof.specs.declared.fact_expressions.conjunctions.Conjunction.{Conjunction}
use Rattle.explained_proof.specs.declared.fact_expressions.trees.Tree.{Tree}
use Rattle.explained_proof.specs.FactExpressions.Conclusions as spec
use Rattle.explained_proof.specs.FactExpressions.Disjunctions.{either_of_all}
use Rattle.explained_proof.specs.FactExpressions.Views as view
use Rattle.explained_proof.proofs.FactExpressions.ConjunctLaws.{all_on, all_done}
use Rattle.explained_proof.proofs.FactExpressions.SayingLaws.{said_deeper, said_no_deeper, flat_next}
use Rattle.explained_proof.proofs.fact_expressions.saying.+predicates.Goals as goal

pub add_all_cases-loop-tree-init : goal.add_all_cases-loop-tree-init
add_all_cases-loop-tree-init t c =
    ap (λ ys. with_members (conjuncts c.args.members.now) (spec.all_of ys)) (sym (map-map (spec.cases_said c.args.depth (scopes.scope c.args.scope.now)) view.tree c.args.trees.now))

pub add_all_cases-loop-tree-preserved : goal.add_all_cases-loop-tree-preserved
add_all_cases-loop-tree-preserved t c =
    all_on (λ (x : Tree). spec.cases_said c.args.depth (scopes.scope c.args.scope.now) (view.tree x)) c.args.trees.now c.loop-tree.tree-index c.tree-item.result _
    (conjuncts c.loop-tree.members) (conjuncts c.add_cases.new.members) c.loop-tree-test.true c.tree-item.is c.loop-tree.invariant c.in_ok-add_cases.ensures

pub add_all_cases-returns : goal.add_all_cases-returns
add_all_cases-returns t c =
    all_done (λ (x : Tree). spec.cases_said c.args.depth (scopes.scope c.args.scope.now) (view.tree x)) c.args.trees.now c.loop-tree.tree-index
    c.loop-tree.members.never (map expression c.loop-tree.members.said.items) _ c.loop-tree-test.false c.loop-tree.invariant

pub add_cases-returns-then-depth-eq0 : goal.add_cases-returns-then-depth-eq0
add_cases-returns-then-depth-eq0 t c =
    sym (ap (with_members (conjuncts c.args.members.now)) (said_no_deeper c.args.depth (scopes.scope c.args.scope.now) (view.tree c.args.tree) c.if-depth-eq0.true) ∙
    with_none c.args.members.now.never (map expression c.args.members.now.said.items))

pub add_cases-returns : goal.add_cases-returns
add_cases-returns t c =
    let s : ClauseScope = scopes.scope c.args.scope.now in
    let e = c.in_ok-said.ensures ∙ ap (spec.alternatives_with (spec.cases_said (c.args.depth - 1) s) s) (c.in_ok-either.ensures ∙ ap either_of_all c.in_ok-parts.ensures) ∙
    sym (said_deeper c.args.depth s (view.tree c.args.tree) c.if-depth-eq0.false) in
    subst (λ m. OnOk c.add_all.result (conjuncts c.add_all.new.self ≡ with_members (conjuncts c.args.members.now) m)) e c.add_all.ensures

pub rests_said-loop-rest-preserved : goal.rests_said-loop-rest-preserved
rests_said-loop-rest-preserved t c =
    flat_next (spec.facts_with (spec.cases_said c.args.depth (scopes.scope c.args.scope.now)) (scopes.scope c.args.scope.now)) (λ (r : Conjunction). spec.rest_parts (view.facts r))
    c.args.rests.now c.loop-rest.rest-index c.rest-item.result _ _ c.loop-rest-test.true c.rest-item.is c.loop-rest.invariant c.in_ok-add_rest.ensures

pub rests_said-returns : goal.rests_said-returns
rests_said-returns t c =
    let F = spec.facts_with (spec.cases_said c.args.depth (scopes.scope c.args.scope.now)) (scopes.scope c.args.scope.now) in
    c.loop-rest.invariant ∙ ap (λ ys. map F (flat_map (λ (r : Conjunction). spec.rest_parts (view.facts r)) ys)) (take_all c.loop-rest.rest-index c.args.rests.now c.loop-rest-test.false) ∙
    ap (map F) (sym (flat_map-map spec.rest_parts view.facts c.args.rests.now))
