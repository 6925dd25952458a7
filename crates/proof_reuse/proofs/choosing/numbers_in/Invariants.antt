use Rattle.std.proofs.Common.{◌≡◌, take}
use Rattle.proof_reuse.specs.Ties.Choices.{numbers_in}
use Rattle.proof_reuse.proofs.choosing.numbers_in.Given as goal

abbrev pub invariant-loop-place : goal.invariant-loop-place
invariant-loop-place l = l.numbers.items ≡ numbers_in (take l.place l.preds) l.proc
