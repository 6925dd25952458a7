use Rattle.std.proofs.Common.{◌≡◌, drop}
use Rattle.typed_tree.specs.TypedView as typed
use Rattle.explained_proof.specs.Backwards as spec
use Rattle.explained_proof.specs.Ties.Views as view
use Rattle.explained_proof.proofs.backwards.JumpLabels.+label_jumps.Given as goal

abbrev pub invariant-pass_all-loop-statement : goal.invariant-pass_all-loop-statement
invariant-pass_all-loop-statement l =
    spec.passing_all (typed.statements (drop l.statement-index l.statements)) (view.labels l.self) ≡ spec.passing_all (typed.statements l.statements) (view.labels l.initial.self)
