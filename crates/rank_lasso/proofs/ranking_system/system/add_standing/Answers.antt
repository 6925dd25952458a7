use Rattle.std.proofs.Common.{◌∙◌, ℕ, ℤ, pos, ◌++◌, map, nat_eq, if◌then◌else◌, to_z, of_z, ap, rules, FitsSigned}
use Rattle.std.specs.Int.{w128}
use Rattle.std.proofs.lemmas.Int.{to_z-of_z}
use Rattle.rank_lasso.specs.RankingSystem.RankingSystem.{weighted}
use Rattle.rank_lasso.proofs.RankingSystem.MakingLaws.{weighted_next, weighted_ends}
use Rattle.rank_lasso.proofs.ranking_system.system.add_standing.Goals as goal

pub loop-i-preserved : goal.loop-i-preserved
loop-i-preserved c =
    let f : FitsSigned w128 c.standing.result = search rules in
    let own : ℕ → ℤ = λ v. if nat_eq v c.args.column then to_z w128 (of_z w128 c.args.factor) else pos 0 in
    weighted_next own c.args.first c.args.versions.now c.loop-i.i 0 c.loop-i.given.items c.push.new.self.items (c.args.given.now.items ++ weighted c.args.first (map own c.args.versions.now))
    c.standing.result c.loop-i-test.true c.loop-i.invariant (simp to_z-of_z at c.in_ok-push.ensures.items) c.standing.ensures

pub returns : goal.returns
returns c =
    let own : ℤ → ℕ → ℤ = λ z v. if nat_eq v c.args.column then z else pos 0 in
    weighted_ends (own (to_z w128 (of_z w128 c.args.factor))) c.args.first c.args.versions.now c.loop-i.i c.loop-i.given.items
    (c.args.given.now.items ++ weighted c.args.first (map (own (to_z w128 (of_z w128 c.args.factor))) c.args.versions.now)) c.loop-i-test.false c.loop-i.invariant ∙
    ap (λ (z : ℤ). c.args.given.now.items ++ weighted c.args.first (map (own z) c.args.versions.now)) (to_z-of_z w128 c.args.factor c.ranges.factor)
