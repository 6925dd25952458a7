use Rattle.std.proofs.Common.{◌≡◌}
use Rattle.hoare_check.proofs.PieceLaws.{all_of}
use Rattle.hoare_check.proofs.proving.joined.Given as goal

abbrev pub invariant-loop-piece : goal.invariant-loop-piece
invariant-loop-piece l = l.proofs.items ≡ all_of l.yielded
