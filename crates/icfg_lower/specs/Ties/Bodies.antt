-- The numbers of procedures with a body.
use Rattle.std.specs.Prelude.{ℕ, Option, slice_get}
use Rattle.std.specs.Option.{option_map, option_and_then}
use Rattle.typed_tree.specs.TypedTree.{TypedProgram}
use Rattle.icfg_lower.specs.declared.program_layout.marks.Marks.{Marks}
use Rattle.icfg_lower.specs.ProgramLayout.Layouts.{marks_of}

-- those of procedure n, where it has a body
abbrev pub body_marks : TypedProgram → ℕ → Option Marks
body_marks t n = option_and_then (λ q. option_map (λ b. marks_of t (n, q)) q.body) (slice_get t.procs n)
