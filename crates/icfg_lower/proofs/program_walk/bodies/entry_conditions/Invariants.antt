use Rattle.std.proofs.Common.{◌≡◌, ◌+◌, map, length, drop}
use Rattle.typed_tree.specs.TypedView as view
use Rattle.typed_tree.specs.TypingRules.TypedParts.{typed_program}
use Rattle.boogie_run.specs.BoogiePoints.Actions.{free_conditions}
use Rattle.lowered_graph.specs.LoweredParts.Parts.{Walked}
use Rattle.icfg_lower.specs.PlaceEdges.WalkedParts.{walked}
use Rattle.icfg_lower.specs.ProgramWalk.Ties.Conditions.{Assumed}
use Rattle.icfg_lower.proofs.program_walk.bodies.entry_conditions.Given as goal

abbrev pub invariant-loop-said : goal.invariant-loop-said
invariant-loop-said l = record {
  program : typed_program l.lowering.parts ≡ typed_program l.fn.lowering.parts;
  count : l.place + length (free_conditions (map view.specification (drop l.said-index l.specs))) ≡ l.here.place + length (free_conditions (map view.specification l.specs));
  assumed : (w : Walked) → Assumed (typed_program l.fn.lowering.parts) l.here.proc l.place (free_conditions (map view.specification (drop l.said-index l.specs))) (walked l.lowering) w →
      Assumed (typed_program l.fn.lowering.parts) l.here.proc l.here.place (free_conditions (map view.specification l.specs)) (walked l.fn.lowering) w;
}
