use Rattle.std.proofs.Common.{◌≡◌, take}
use Rattle.typed_tree.specs.TypingRules.TypedParts.{typed_program}
use Rattle.boogie_run.specs.BoogiePlaces.Places.{places_from}
use Rattle.lowered_graph.specs.LoweredParts.Parts.{Adds}
use Rattle.icfg_lower.specs.PlaceEdges.WalkedParts.{walked}
use Rattle.icfg_lower.proofs.program_walk.programs.procedures.Given as goal

abbrev pub invariant-loop-number : goal.invariant-loop-number
invariant-loop-number l = record {
  program : typed_program l.lowering.parts ≡ typed_program l.fn.lowering.parts;
  added : Adds (places_from (typed_program l.fn.lowering.parts) 0 (take l.number (typed_program l.fn.lowering.parts).procs)) (walked l.fn.lowering) (walked l.lowering);
}
