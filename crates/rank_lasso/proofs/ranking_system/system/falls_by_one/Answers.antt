use Rattle.std.proofs.Common.{◌∙◌, ℕ, ℤ, List, negsuc, sym, subst}
use Rattle.lin_rows.specs.Sums.{SumsFit}
use Rattle.rank_lasso.proofs.RankingSystem.SystemFits.{one_sums}
use Rattle.rank_lasso.proofs.ranking_system.system.falls_by_one.Goals as goal

pub fitting_row-requires : goal.fitting_row-requires
fitting_row-requires c =
    subst (λ (v : List (ℕ × ℤ)). SumsFit v (negsuc 0)) (sym (c.deref.ensures.value ∙ c.in_ok-bounds.ensures)) (one_sums c.args.rows.now c.requires.valid)
