use Rattle.std.proofs.Common.{◌≡◌, drop}
use Rattle.typed_tree.specs.TypedView as view
use Rattle.typed_tree.specs.TypingRules.TypedParts.{typed_program}
use Rattle.lowered_graph.specs.LoweredSteps.ProgramFrames.{frame_at}
use Rattle.icfg_lower.specs.PlaceEdges.WalkedParts.{walked}
use Rattle.icfg_lower.specs.ProgramWalk.Ties.Bounds.{BlockFits}
use Rattle.icfg_lower.proofs.ProgramWalk.WalkSteps.{BlockLeft}
use Rattle.icfg_lower.proofs.program_walk.walking.+walking.Given as goal

abbrev pub invariant-block-loop-number : goal.invariant-block-loop-number
invariant-block-loop-number l = record {
  program : typed_program l.lowering.parts ≡ typed_program l.fn.lowering.parts;
  around : l.loops.items ≡ l.fn.loops.items;
  fits : BlockFits (typed_program l.fn.lowering.parts) (frame_at (typed_program l.fn.lowering.parts) l.body.proc) (view.statements (drop l.number l.list)) l.here.assertion l.here.place;
  left :
      BlockLeft (typed_program l.fn.lowering.parts) l.body.proc l.body.exit l.body.labels.items l.fn.loops.items l.after (view.statements l.list) l.fn.from.assertion l.fn.from.place (view.statements (drop l.number l.list))
      l.here.assertion l.here.place (walked l.fn.lowering) (walked l.lowering);
}
