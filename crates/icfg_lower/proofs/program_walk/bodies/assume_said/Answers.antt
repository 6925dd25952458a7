use Rattle.typed_tree.specs.TypedView as view
use Rattle.typed_tree.specs.TypingRules.TypedParts.{typed_program}
use Rattle.icfg_lower.proofs.ProgramWalk.ReadForms.{free_fits}
use Rattle.icfg_lower.proofs.program_walk.bodies.assume_said.Goals as goal

pub assume-requires-clause-fit : goal.assume-requires-clause-fit
assume-requires-clause-fit c = free_fits (typed_program c.args.lowering.now.parts) (view.specification c.args.said.now) (view.invariant c.in-Some.condition.now) c.requires.fit c.in-Some.ensures
