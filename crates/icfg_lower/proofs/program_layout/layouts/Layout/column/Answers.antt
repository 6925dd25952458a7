use Rattle.std.proofs.Common.{◌≡◌, ◌+◌, ◌<◌, ◌^◌, ℕ, sym, subst, arith}
use Rattle.typed_tree.specs.TypingRules.TypedParts.{TypedParts, typed_program}
use Rattle.lowered_graph.specs.LoweredSteps.ProgramFrames.{frame_at, column_number}
use Rattle.icfg_lower.specs.ProgramLayout.Layouts.{StandsIn}
use Rattle.icfg_lower.proofs.ProgramLayout.ColumnLaws.{global_here, local_here, local_has_number}
use Rattle.icfg_lower.proofs.program_layout.layouts.Layout.column.Goals as goal

pub overflow_add-result : goal.overflow_add-result
overflow_add-result c =
    let stands = subst (λ (p : TypedParts). StandsIn (frame_at (typed_program p) c.requires.0) c.args.column) (sym c.self.view_is) c.requires.1 in
    let h : c.self.inside.before_locals + c.in-Local.number < 2 ^ 32 =
    local_has_number (typed_program c.self.inside.program.now) c.self.invariant.valid c.args.column c.in-Local.number c.self.inside.before_locals c.in-Local.is c.self.invariant.before c.requires.0 stands in
    omega arith

pub returns-in-Global : goal.returns-in-Global
returns-in-Global c = global_here (typed_program c.args.self.now) c.args.column c.in-Global.number c.in-Global.is

pub returns-in-Local : goal.returns-in-Local
returns-in-Local c =
    subst (λ (p : TypedParts). (n : ℕ) → StandsIn (frame_at (typed_program p) n) c.args.column → c.self.inside.before_locals + c.in-Local.number ≡ column_number (frame_at (typed_program p) n) c.args.column) c.self.view_is
    (local_here (typed_program c.self.inside.program.now) c.args.column c.in-Local.number c.self.inside.before_locals c.in-Local.is c.self.invariant.before)
