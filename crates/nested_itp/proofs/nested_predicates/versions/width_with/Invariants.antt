use Rattle.std.proofs.Common.{◌<◌, ◌≤◌, take}
use Rattle.std.specs.List.{AllByRecursion}
use Rattle.nested_itp.proofs.nested_predicates.versions.width_with.Given as goal

abbrev pub invariant-loop-i : goal.invariant-loop-i
invariant-loop-i l = record {
  least : l.least ≤ l.width;
  versions : AllByRecursion (λ v. v < l.width) (take l.i l.state);
}
