use Rattle.std.proofs.Common.{◌≡◌, unsigned_abs, take}
use Rattle.lin_rows.specs.Tightening.{divided}
use Rattle.lin_rows.proofs.tightening.divided.Given as goal

abbrev pub invariant-loop-column : goal.invariant-loop-column
invariant-loop-column l = l.quotients.items ≡ divided (unsigned_abs l.divisor) (take l.column-index l.terms)
