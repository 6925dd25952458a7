use Rattle.std.proofs.Common.{◌≡◌, ◌++◌, map, drop}
use Rattle.typed_tree.specs.TypedView as view
use Rattle.letter_acts.specs.Acts.{plain_frames}
use Rattle.icfg_lower.specs.ProgramLayout.Layouts.{frame_with}
use Rattle.icfg_lower.proofs.program_layout.frames.frames_of.Given as goal

abbrev pub invariant-loop-listed : goal.invariant-loop-listed
invariant-loop-listed l = plain_frames l.frames.items ++ map (λ q. frame_with l.globals q.locals) (map view.procedure (drop l.listed-index l.procs)) ≡ map (λ q. frame_with l.globals q.locals) (map view.procedure l.procs)
