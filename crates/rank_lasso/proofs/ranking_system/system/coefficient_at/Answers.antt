use Rattle.std.proofs.Common.{◌∙◌, ℕ, ℤ, List, pos, get_or, ltb, sym, ap, subst, arith, rules, to_z-of_z, FitsSigned}
use Rattle.std.specs.Int.{w128}
use Rattle.std.proofs.lemmas.Bool.{ltb-true, ltb-false}
use Rattle.std.proofs.lemmas.List.Sorted.{IsPartitionPoint-from_clause, IsPartitionedBy-ltb}
use Rattle.math_facts.specs.Terms.{coefficient}
use Rattle.lin_rows.specs.Rows.{AscendsFrom}
use Rattle.rank_lasso.proofs.RankingSystem.MakingLaws.{at_place, none_at, ascends_by}
use Rattle.rank_lasso.proofs.ranking_system.system.coefficient_at.Goals as goal
use Rattle.rank_lasso.proofs.ranking_system.system.coefficient_at.Goals.{else-place-terms-via-then-place-terms+else-terms-place, else-place-terms-via-else-place-terms}

pub returns-then-terms-place : goal.returns-then-terms-place
returns-then-terms-place c =
    let ts : List (ℕ × ℤ) = c.terms-terms.result.now in
    let f : FitsSigned w128 (get_or ts c.partition_point-place.result (0, pos 0)).1 = search rules in
    let a : AscendsFrom 0 ts = subst (AscendsFrom 0) (sym c.terms-terms.ensures.value) c.terms-terms.ensures.valid.ascends in
    simp to_z-of_z
    (at_place 0 ts c.args.column c.partition_point-place.result (0, pos 0) a (omega arith) c.if-terms-place.true ∙ ap (coefficient c.args.column) c.terms-terms.ensures.value)

pub returns-else-place-terms : goal.returns-else-place-terms
returns-else-place-terms c =
    let ts : List (ℕ × ℤ) = c.terms-terms.result.now in
    let place : ℕ = c.partition_point-place.result in
    let a : AscendsFrom 0 ts = subst (AscendsFrom 0) (sym c.terms-terms.ensures.value) c.terms-terms.ensures.valid.ascends in
    let parted = IsPartitionedBy-ltb (λ t. t.0) ts c.args.column (ascends_by 0 ts a) in
    let point = IsPartitionPoint-from_clause (λ t. ltb t.0 c.args.column) _ _ c.partition_point-place.ensures.partitioned parted (λ a r q k. search rules) in
    none_at 0 ts c.args.column place (0, pos 0) a (λ k d l m. ltb-true _ _ (point.0 k d (omega arith) l)) (λ k d l m. ltb-false _ _ (point.1 k d l m))
    (elim c.else-place-terms.branch [
      | else-place-terms-via-then-place-terms+else-terms-place w ↦ λ l e. w.if-terms-place.false e
      | else-place-terms-via-else-place-terms w ↦ λ l e. absurd (let n = w.if-place-terms.false in omega (arith, n, l))
    ]) ∙ ap (coefficient c.args.column) c.terms-terms.ensures.value
