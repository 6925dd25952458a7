use Rattle.std.proofs.Common.{◌≡◌, map, take}
use Rattle.std.specs.List.{AllByRecursion}
use Rattle.math_facts.specs.Fits.{Fits}
use Rattle.rank_lasso.specs.RankingSystem.Scaled.{least_denominator, numerator_over}
use Rattle.rank_lasso.proofs.ranking_system.scaling.scaled.Given as goal

abbrev pub invariant-loop-value : goal.invariant-loop-value
invariant-loop-value l = record {
  are : l.numerators.items ≡ map (numerator_over (least_denominator l.values)) (take l.value-index l.values);
  fit : AllByRecursion Fits l.numerators.items;
}
