use Rattle.std.proofs.Common.{◌≡◌, ◌+◌, map, take}
use Rattle.typed_tree.specs.TypedView as view
use Rattle.typed_tree.specs.TypingRules.Counts.{plain_invariants}
use Rattle.typed_tree.specs.TypingRules.TypedParts.{typed_program}
use Rattle.icfg_lower.specs.PlaceEdges.WalkedParts.{walked}
use Rattle.icfg_lower.proofs.ProgramWalk.LoopSteps.{InvariantsDone}
use Rattle.icfg_lower.proofs.program_walk.statements.invariants.Given as goal

abbrev pub invariant-loop-done : goal.invariant-loop-done
invariant-loop-done l = record {
  program : typed_program l.lowering.parts ≡ typed_program l.fn.lowering.parts;
  number : l.number ≡ l.first + plain_invariants (take l.done (map view.invariant l.conditions));
  done : InvariantsDone (typed_program l.fn.lowering.parts) l.here.proc (map view.invariant l.conditions) l.first l.here.place l.done (walked l.fn.lowering) (walked l.lowering);
}
