use Rattle.std.proofs.Common.{◌≡◌}
use Rattle.typed_tree.specs.TypingRules.TypedParts.{typed_program}
use Rattle.icfg_lower.specs.PlaceEdges.WalkedParts.{walked}
use Rattle.icfg_lower.specs.ProgramWalk.Ties.Conditions.{StartAdds}
use Rattle.icfg_lower.proofs.program_walk.starting.axioms.Given as goal

abbrev pub invariant-loop-axiom : goal.invariant-loop-axiom
invariant-loop-axiom l = record {
  program : typed_program l.lowering.parts ≡ typed_program l.fn.lowering.parts;
  number : l.number ≡ l.axiom-index;
  starts : StartAdds (typed_program l.fn.lowering.parts) 0 l.axiom-index (walked l.fn.lowering) (walked l.lowering);
}
