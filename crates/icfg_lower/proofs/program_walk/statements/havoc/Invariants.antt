use Rattle.std.proofs.Common.{◌≡◌}
use Rattle.typed_tree.specs.TypingRules.TypedParts.{typed_program}
use Rattle.icfg_lower.specs.PlaceEdges.WalkedParts.{walked}
use Rattle.icfg_lower.proofs.ProgramWalk.LoopSteps.{HavocDone}
use Rattle.icfg_lower.proofs.program_walk.statements.havoc.Given as goal

abbrev pub invariant-loop-number : goal.invariant-loop-number
invariant-loop-number l = record {
  program : typed_program l.lowering.parts ≡ typed_program l.fn.lowering.parts;
  done : HavocDone (typed_program l.fn.lowering.parts) l.here.proc l.columns l.here.place l.after l.number (walked l.fn.lowering) (walked l.lowering);
}
