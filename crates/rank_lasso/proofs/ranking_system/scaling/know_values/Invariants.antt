use Rattle.std.proofs.Common.{take}
use Rattle.std.specs.List.{AllByRecursion}
use Rattle.frac.specs.Fractions.{IsFraction}
use Rattle.rank_lasso.proofs.ranking_system.scaling.know_values.Given as goal

abbrev pub invariant-loop-value : goal.invariant-loop-value
invariant-loop-value l = record { valid : AllByRecursion IsFraction (take l.value-index l.values) }
