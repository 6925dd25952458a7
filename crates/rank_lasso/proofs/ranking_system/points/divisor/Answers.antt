use Rattle.std.proofs.Common.{◌≡◌, ◌∙◌, ◌<◌, ◌^◌, ℕ, pos, take, get_or, FitsSigned, sym, ap, subst, rules}
use Rattle.std.specs.Int.{w128}
use Rattle.std.proofs.lemmas.Int.{to_z-of_z, to_z_pos}
use Rattle.std.proofs.lemmas.List.{take_all}
use Rattle.lin_rows.specs.Tightening.{content}
use Rattle.lin_rows.proofs.TighteningLaw.{divisors_more, content_from_divisors, content_fits}
use Rattle.rank_lasso.specs.RankingSystem.RankingSystem.{taken_by}
use Rattle.rank_lasso.proofs.RankingSystem.TakenLaws.{taken_itself}
use Rattle.rank_lasso.proofs.ranking_system.points.divisor.Goals as goal
use Rattle.rank_lasso.proofs.ranking_system.points.divisor.Goals.{After-loop-term}

pub loop-term-preserved : goal.loop-term-preserved
loop-term-preserved c =
    let f : FitsSigned w128 (get_or c.args.terms.now c.loop-term.term-index (0, pos 0)).1 = search rules in
    let k = simp to_z-of_z at c.unsigned_abs.ensures.value in
    divisors_more c.args.terms.now c.loop-term.term-index c.loop-term.shared c.greatest_divisor-shared.result (0, pos 0) c.loop-term-test.true
    (rw k at c.greatest_divisor-shared.ensures) c.loop-term.invariant

-- the divisor that is left is that of all terms
content_is : (c : After-loop-term) → content c.args.terms.now ≡ c.loop-term.shared
content_is c =
    let e : take c.loop-term.term-index c.args.terms.now ≡ c.args.terms.now = take_all c.loop-term.term-index c.args.terms.now c.loop-term-test.false in
    content_from_divisors c.args.terms.now c.loop-term.shared c.requires (rw e at c.loop-term.invariant)

pub overflow_cast-result : goal.overflow_cast-result
overflow_cast-result c =
    let d = content_is (goal.at.overflow_cast-result c).After-loop-term in
    record { sfits = subst (λ (n : ℕ). n < 2 ^ 127) d (content_fits c.args.terms.now c.requires) }

pub returns-then-shared-eq0 : goal.returns-then-shared-eq0
returns-then-shared-eq0 c = let d = content_is (goal.at.returns-then-shared-eq0 c).After-loop-term in sym (ap (λ (n : ℕ). pos (taken_by n)) (d ∙ c.if-shared-eq0.true))

pub returns-else-shared-eq0 : goal.returns-else-shared-eq0
returns-else-shared-eq0 c =
    let d = content_is (goal.at.returns-else-shared-eq0 c).After-loop-term in
    to_z_pos w128 c.loop-term.shared (subst (λ (n : ℕ). n < 2 ^ 127) d (content_fits c.args.terms.now c.requires)) ∙
    ap pos (sym (ap taken_by d ∙ taken_itself c.loop-term.shared c.if-shared-eq0.false))
