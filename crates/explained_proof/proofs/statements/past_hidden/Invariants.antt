use Rattle.std.proofs.Common.{◌≡◌, map, length}
use Rattle.typed_tree.specs.TypedView as typed
use Rattle.explained_proof.specs.Ties.Fitting.{HasPlaces}
use Rattle.explained_proof.specs.Statements as spec
use Rattle.explained_proof.specs.Ties.Views as view
use Rattle.explained_proof.proofs.statements.past_hidden.Given as goal

abbrev pub invariant-loop-first : goal.invariant-loop-first
invariant-loop-first l = record {
  value : spec.past_hidden (view.left l.left) ≡ spec.past_hidden (view.left l.fn.left);
  fits : HasPlaces (map typed.procedure l.procs) (view.left l.left);
}

abbrev pub decreases-loop-first : goal.decreases-loop-first
decreases-loop-first l = length l.left.rest.now
