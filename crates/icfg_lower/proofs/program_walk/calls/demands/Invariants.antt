use Rattle.std.proofs.Common.{◌≡◌, map, drop}
use Rattle.typed_tree.specs.TypedView as view
use Rattle.typed_tree.specs.TypingRules.TypedParts.{typed_program}
use Rattle.boogie_run.specs.BoogiePoints.Actions.{plain_conditions}
use Rattle.icfg_lower.specs.PlaceEdges.WalkedParts.{walked}
use Rattle.icfg_lower.specs.ProgramWalk.Ties.Calls.{AreLeft, PartsMade}
use Rattle.icfg_lower.proofs.program_walk.calls.demands.Given as goal

abbrev pub invariant-loop-said : goal.invariant-loop-said
invariant-loop-said l = record {
  program : typed_program l.lowering.parts ≡ typed_program l.fn.lowering.parts;
  left : AreLeft (plain_conditions (map view.specification l.specs)) l.done.count (plain_conditions (map view.specification (drop l.said-index l.specs)));
  made :
      PartsMade (typed_program l.fn.lowering.parts) l.here.proc l.called.span l.called.targets.now l.called.callee (map view.expression l.called.args.now) (plain_conditions (map view.specification l.specs)) l.first l.here.place
      l.done.count l.done.trouble.wide l.done.trouble.big (walked l.fn.lowering) (walked l.lowering);
}
