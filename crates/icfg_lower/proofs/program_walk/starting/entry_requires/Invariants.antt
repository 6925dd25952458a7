use Rattle.std.proofs.Common.{◌≡◌, ◌+◌, map, length, take}
use Rattle.typed_tree.specs.TypedView as view
use Rattle.typed_tree.specs.TypingRules.TypedParts.{typed_program}
use Rattle.boogie_run.specs.BoogiePoints.Actions.{plain_conditions}
use Rattle.icfg_lower.specs.PlaceEdges.WalkedParts.{walked}
use Rattle.icfg_lower.specs.ProgramWalk.Ties.Conditions.{StartAdds}
use Rattle.icfg_lower.proofs.program_walk.starting.entry_requires.Given as goal

abbrev pub invariant-loop-said : goal.invariant-loop-said
invariant-loop-said l = record {
  program : typed_program l.lowering.parts ≡ typed_program l.fn.lowering.parts;
  number : l.number ≡ l.first + length (plain_conditions (take l.said-index (map view.specification l.said-items)));
  starts : StartAdds (typed_program l.fn.lowering.parts) l.first (length (plain_conditions (take l.said-index (map view.specification l.said-items)))) (walked l.fn.lowering) (walked l.lowering);
}
