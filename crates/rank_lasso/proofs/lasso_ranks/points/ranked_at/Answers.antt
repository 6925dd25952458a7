use Rattle.std.proofs.Common.{FitsSigned, sym, subst, refl, rules}
use Rattle.std.specs.Int.{w128}
use Rattle.std.proofs.lemmas.Int.{to_z-of_z}
use Rattle.lin_rows.specs.Points.{point_of}
use Rattle.letter_acts.specs.Kept.{Keeps}
use Rattle.rank_lasso.specs.RankingSystem.Scaled.{IsScaled}
use Rattle.rank_lasso.specs.LassoRanks.Lassos.{plain_lasso}
use Rattle.rank_lasso.proofs.LassoRanks.SearchLaws.{rank_fits_at, ranking_over, at_point}
use Rattle.rank_lasso.proofs.lasso_ranks.points.ranked_at.Goals as goal
use Rattle.rank_lasso.proofs.lasso_ranks.points.ranked_at.Goals.{After-deref, In-Some-2}

are_scaled : (c : After-deref) → IsScaled c.args.values.now c.deref.result.now
are_scaled c = subst (IsScaled c.args.values.now) (sym c.deref.ensures.value) (rw c.in-Some.is at c.in_ok-numerators.ensures.value)

pub returns-in_default-2-clause-number : goal.returns-in_default-2-clause-number
returns-in_default-2-clause-number c = λ e m f.
    (rw c.in_default-2.is at c.in_ok-rank.ensures.past) refl
    (rank_fits_at c.args.icfg.now (plain_lasso c.args.lasso.now) c.args.turn.now c.args.tight.now c.requires.turn c.requires.tight c.args.values.now c.deref.result.now
    (are_scaled (goal.at.returns-in_default-2-clause-number c).After-deref) f)

pub check_rank-requires-clause-over : goal.check_rank-requires-clause-over
check_rank-requires-clause-over c =
    let f : FitsSigned w128 c.in-Some-2.rank.bound = search rules in
    simp to_z-of_z
    (ranking_over c.args.icfg.now (plain_lasso c.args.lasso.now) c.args.turn.now c.args.tight.now c.requires.turn c.requires.tight (point_of c.deref.result.now) c.in-Some-2.rank
    (rw c.in-Some-2.is at c.in_ok-rank.ensures.value))

pub returns-in-None-clause-found : goal.returns-in-None-clause-found
returns-in-None-clause-found c =
    let f : FitsSigned w128 c.in-Some-2.rank.bound = search rules in (
      simp to_z-of_z
          (ranking_over c.args.icfg.now (plain_lasso c.args.lasso.now) c.args.turn.now c.args.tight.now c.requires.turn c.requires.tight (point_of c.deref.result.now) c.in-Some-2.rank
          (rw c.in-Some-2.is at c.in_ok-rank.ensures.value)),
      (rw c.in-None.is at c.in_ok-check_rank.ensures.exact).0 refl,
    )

pub returns-clause-number : goal.returns-clause-number
unfolding Keeps
returns-clause-number c = λ e m f.
    (let b : FitsSigned w128 c.in-Some-2.rank.bound = search rules in
    at_point c.args.icfg.now (plain_lasso c.args.lasso.now) c.args.turn.now c.args.tight.now c.requires.turn c.requires.tight c.requires.valid c.requires.placed.loop c.args.values.now
    c.deref.result.now c.in-Some-2.rank c.in-Some-3.field-0 c.in_ok-numerators.ensures.valid m (are_scaled (goal.at.returns-clause-number c).After-deref)
    (rw c.in-Some-2.is at c.in_ok-rank.ensures.value) f (simp to_z-of_z at (rw c.in-Some-3.is at c.in_ok-check_rank.ensures.line)))
