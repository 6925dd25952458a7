use Rattle.std.proofs.Common.{◌<◌, take}
use Rattle.std.specs.List.{AllByRecursion}
use Rattle.nested_itp.proofs.nested_predicates.versions.width.Given as goal

abbrev pub invariant-loop-i : goal.invariant-loop-i
invariant-loop-i l = AllByRecursion (λ s. AllByRecursion (λ v. v < l.width) s.items) (take l.i l.states)
