use Rattle.std.proofs.Common.{◌≡◌, drop}
use Rattle.int_decide.specs.Decide.{first_broken}
use Rattle.int_decide.proofs.values.first_broken.Given as goal

abbrev pub invariant-loop-value : goal.invariant-loop-value
invariant-loop-value l = record {
  column : l.column ≡ l.value-index;
  broken : first_broken l.value-index (drop l.value-index l.values) ≡ first_broken 0 l.values;
}
