use Rattle.typed_tree.specs.TypingRules.TypedParts.{typed_program}
use Rattle.icfg_lower.proofs.ProgramWalk.WholeSteps.{body_fits}
use Rattle.icfg_lower.proofs.program_walk.programs.marks_at.Goals as goal

pub returns-clause-fits : goal.returns-clause-fits
returns-clause-fits c = λ q whole e k. body_fits (typed_program c.args.layout.now) c.args.proc q whole c.program-program.ensures.valid e k
