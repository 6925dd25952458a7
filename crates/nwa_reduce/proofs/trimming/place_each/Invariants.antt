use Rattle.std.proofs.Common.{◌≡◌, take, length}
use Rattle.nwa_reduce.specs.Ties.Naming.{IsIndex}
use Rattle.nwa_reduce.proofs.trimming.place_each.Given as goal

abbrev pub invariant-loop-place : goal.invariant-loop-place
invariant-loop-place l = record { index : IsIndex (take l.place l.kept) l.of.items; long : length l.of.items ≡ length l.fn.of.items }
