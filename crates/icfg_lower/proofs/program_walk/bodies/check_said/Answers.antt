use Rattle.typed_tree.specs.TypedView as view
use Rattle.typed_tree.specs.TypingRules.TypedParts.{typed_program}
use Rattle.icfg_lower.proofs.ProgramWalk.ReadForms.{ensured_fits}
use Rattle.icfg_lower.proofs.program_walk.bodies.check_said.Goals as goal

pub check-requires-clause-fit : goal.check-requires-clause-fit
check-requires-clause-fit c = ensured_fits (typed_program c.args.lowering.now.parts) (view.specification c.args.said.now) (view.invariant c.in-Some.condition.now) c.requires.fit c.in-Some.ensures
