use Rattle.std.proofs.Common.{arith}
use Rattle.typed_tree.specs.TypingRules.TypedParts.{typed_program}
use Rattle.icfg_lower.proofs.ProgramLayout.FitLaws.{errors_fit}
use Rattle.icfg_lower.proofs.program_layout.layouts.Layout.places.Goals as goal

pub overflow_add-result : goal.overflow_add-result
overflow_add-result c = omega (arith, errors_fit (typed_program c.self.inside.program.now) c.self.invariant.valid)
