use Rattle.std.proofs.Common.{◌≡◌, drop}
use Rattle.explained_proof.specs.Backwards as spec
use Rattle.explained_proof.specs.Ties.Views as view
use Rattle.explained_proof.proofs.backwards.JumpLabels.jumps.Given as goal

abbrev pub invariant-loop-number : goal.invariant-loop-number
invariant-loop-number l = spec.jumps (drop l.number-index l.numbers) (view.labels l.self) ≡ spec.jumps l.numbers (view.labels l.initial.self)
