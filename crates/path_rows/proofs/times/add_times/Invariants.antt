use Rattle.std.proofs.Common.{◌≡◌, ◌++◌}
use Rattle.path_rows.specs.Paths.{repeated}
use Rattle.path_rows.proofs.times.add_times.Given as goal

abbrev pub invariant-loop-i : goal.invariant-loop-i
invariant-loop-i g l = l.numbers.items ≡ l.initial.numbers.items ++ repeated l.number l._i
