use Rattle.std.proofs.Common.{List, ap, ◌∙◌}
use Rattle.std.specs.Prelude.{slice_get}
use Rattle.std.specs.Option.{option_map}
use Rattle.typed_tree.specs.TypingRules.TypedParts.{TypedParts, typed_program}
use Rattle.icfg_lower.specs.declared.program_layout.marks.Marks.{Marks}
use Rattle.icfg_lower.specs.ProgramLayout.Layouts.{marks_of}
use Rattle.icfg_lower.proofs.ProgramLayout.ListLaws.{get_marks}
use Rattle.icfg_lower.proofs.program_layout.layouts.Layout.marks.Goals as goal

pub returns : goal.returns
returns c =
    c.marks_in.ensures
    ∙ ap (λ (ms : List Marks). slice_get ms c.args.proc) c.deref.ensures.value
    ∙ get_marks (typed_program c.self.inside.program.now) c.args.proc c.self.inside.marks.items c.self.invariant.marks_are
    ∙ ap (λ (p : TypedParts). option_map (λ q. marks_of (typed_program p) (c.args.proc, q)) (slice_get (typed_program p).procs c.args.proc)) c.self.view_is
