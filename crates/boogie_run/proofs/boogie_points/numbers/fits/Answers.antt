use Rattle.typed_tree.specs.TypingRules.TypedParts.{typed_program}
use Rattle.boogie_run.proofs.BoogiePoints.NumberLaws.{locals_fit}
use Rattle.boogie_run.proofs.boogie_points.numbers.fits.Goals as goal

pub returns-clause-locals : goal.returns-clause-locals
returns-clause-locals c =
    locals_fit c.typed_programs_are_typed.ensures.locals c.typed_programs_are_typed.ensures.numbers (typed_program c.args.program.now) c.globals-globals.ensures.valid
