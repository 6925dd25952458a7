use Rattle.std.proofs.Common.{◌≡◌, pos, ◌<ℤ◌, drop}
use Rattle.std.specs.Prelude.{unsigned_abs}
use Rattle.math_facts.specs.Fits.{Fits}
use Rattle.rank_lasso.specs.RankingSystem.Scaled.{multiple_with, least_denominator}
use Rattle.rank_lasso.proofs.ranking_system.scaling.least_denominator.Given as goal

abbrev pub invariant-loop-value : goal.invariant-loop-value
invariant-loop-value l = record {
  positive : pos 0 <ℤ l.least;
  fits : Fits l.least;
  so_far : multiple_with (unsigned_abs l.least) (drop l.value-index l.values) ≡ least_denominator l.values;
}
