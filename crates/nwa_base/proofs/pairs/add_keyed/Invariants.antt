use Rattle.std.proofs.Common.{◌≡◌, ◌++◌, drop}
use Rattle.nwa_base.specs.Ties.Reading.{keyed}
use Rattle.nwa_base.proofs.pairs.add_keyed.Given as goal

abbrev pub invariant-loop-e : goal.invariant-loop-e
invariant-loop-e l = l.pairs.items ++ keyed l.key (drop l.e-index l.to) ≡ l.initial.pairs.items ++ keyed l.key l.to
