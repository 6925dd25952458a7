use Rattle.std.proofs.Common.{◌≡◌, map, length, drop}
use Rattle.typed_tree.specs.TypedView as view
use Rattle.typed_tree.specs.TypingRules.Counts.{plain_invariants}
use Rattle.typed_tree.specs.TypingRules.TypedParts.{typed_program}
use Rattle.boogie_run.specs.BoogiePoints.Actions.{ensured_conditions}
use Rattle.lowered_graph.specs.LoweredParts.Parts.{Walked}
use Rattle.icfg_lower.specs.PlaceEdges.WalkedParts.{walked}
use Rattle.icfg_lower.specs.ProgramWalk.Ties.Bounds.{HasNumbers}
use Rattle.icfg_lower.specs.ProgramWalk.Ties.Conditions.{Checked}
use Rattle.icfg_lower.proofs.program_walk.bodies.exit_conditions.Given as goal

abbrev pub invariant-loop-said : goal.invariant-loop-said
invariant-loop-said l = record {
  program : typed_program l.lowering.parts ≡ typed_program l.fn.lowering.parts;
  numbers : HasNumbers (typed_program l.fn.lowering.parts) l.next.assertion l.next.place (plain_invariants (ensured_conditions (map view.specification (drop l.said-index l.specs))))
      (length (ensured_conditions (map view.specification (drop l.said-index l.specs))));
  checked : (w : Walked) → Checked (typed_program l.fn.lowering.parts) l.proc l.next.assertion l.next.place (ensured_conditions (map view.specification (drop l.said-index l.specs))) (walked l.lowering) w →
      Checked (typed_program l.fn.lowering.parts) l.proc l.fn.first.assertion l.fn.first.place (ensured_conditions (map view.specification l.specs)) (walked l.fn.lowering) w;
}
