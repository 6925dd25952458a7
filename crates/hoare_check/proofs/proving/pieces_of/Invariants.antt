use Rattle.std.proofs.Common.{◌≡◌, ◌++◌}
use Rattle.hoare_check.proofs.PieceLaws.{all_of}
use Rattle.hoare_check.proofs.proving.pieces_of.Given as goal

abbrev pub invariant-loop-triple : goal.invariant-loop-triple
invariant-loop-triple l = all_of l.pieces.items ++ l.piece.items ≡ l.yielded
