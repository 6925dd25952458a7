use Rattle.std.proofs.Common.{◌≡◌, map, take}
use Rattle.std.specs.List.{AllByRecursion}
use Rattle.frac.specs.Fractions.{IsFraction}
use Rattle.int_decide.proofs.values.numerators.Given as goal

abbrev pub invariant-loop-value : goal.invariant-loop-value
invariant-loop-value l = record {
  numbers : l.numbers.items ≡ map (λ f. f.num) (take l.value-index l.values);
  valid : AllByRecursion IsFraction (take l.value-index l.values);
}
