use Rattle.std.proofs.Common.{◌≡◌, ◌∙◌, ◌+◌, ℕ, [], ◌∷◌, ◌++◌, map, ap, arith, rules, FitsSigned}
use Rattle.std.specs.Int.{w128}
use Rattle.std.proofs.lemmas.Int.{to_z-of_z}
use Rattle.lin_rows.specs.Rows.{LinearRow}
use Rattle.rank_lasso.specs.RankingSystem.RankingSystem.{weighted}
use Rattle.rank_lasso.proofs.RankingSystem.MakingLaws.{weighted_next, weighted_ends}
use Rattle.rank_lasso.proofs.ranking_system.system.bounds_of.Goals as goal

pub loop-i-preserved : goal.loop-i-preserved
loop-i-preserved c =
    let f : FitsSigned w128 c.bound.result = search rules in
    let k : c.loop-i.i ≡ 0 + c.loop-i.i = omega arith in
    weighted_next (λ r. r.bound) 0 c.args.rows.now c.loop-i.i c.index-rows-i.result c.loop-i.bounds.items c.push.new.self.items (weighted 0 (map (λ r. r.bound) c.args.rows.now))
    c.bound.result c.loop-i-test.true c.loop-i.invariant
    ((simp to_z-of_z at c.in_ok-push.ensures.items) ∙ ap (λ (n : ℕ). c.loop-i.bounds.items ++ (n, c.bound.result) ∷ []) k)
    (c.bound.ensures ∙ ap (λ (r : LinearRow). r.bound) c.index-rows-i.is)

pub returns : goal.returns
returns c =
    weighted_ends (λ r. r.bound) 0 c.args.rows.now c.loop-i.i c.loop-i.bounds.items (weighted 0 (map (λ r. r.bound) c.args.rows.now)) c.loop-i-test.false c.loop-i.invariant
