use Rattle.std.proofs.Common.{◌≡◌, length, sym, ap, arith}
use Rattle.typed_tree.specs.TypingRules.TypedParts.{TypedParts, typed_program}
use Rattle.lowered_graph.specs.Lowered.{program_sites}
use Rattle.icfg_lower.proofs.ProgramLayout.FitLaws.{errors_fit}
use Rattle.icfg_lower.proofs.program_layout.layouts.Layout.error_place.Goals as goal

pub overflow_add-result : goal.overflow_add-result
overflow_add-result c =
    let same : length (program_sites (typed_program c.args.self.now)) ≡ length (program_sites (typed_program c.self.inside.program.now)) =
    ap (λ (p : TypedParts). length (program_sites (typed_program p))) (sym c.self.view_is) in
    omega (arith, errors_fit (typed_program c.self.inside.program.now) c.self.invariant.valid)
