use Rattle.std.proofs.Common.{◌≡◌, ◌<◌, ◌+◌, ◌^◌, ◌++◌, map, length, drop}
use Rattle.typed_tree.specs.TypedView as view
use Rattle.typed_tree.specs.TypingRules.Counts.{all_places}
use Rattle.boogie_run.specs.BoogiePoints.Actions.{assertions_before, points_before}
use Rattle.icfg_lower.specs.ProgramLayout.Layouts.{marks_from}
use Rattle.icfg_lower.proofs.program_layout.marks.all_marks.Given as goal

abbrev pub invariant-loop-counted : goal.invariant-loop-counted
invariant-loop-counted l = record {
  assertions : l.assertion + all_places (map view.procedure l.procs) (map view.procedure (drop l.counted-index l.procs)) < 2 ^ 32;
  places : l.place + all_places (map view.procedure l.procs) (map view.procedure (drop l.counted-index l.procs)) < 2 ^ 32;
  marks : l.marks.items ++ marks_from (map view.procedure l.procs) l.assertion l.place (map view.procedure (drop l.counted-index l.procs)) ≡ marks_from (map view.procedure l.procs) 1 l.first (map view.procedure l.procs);
  place : l.place + points_before (map view.procedure l.procs) (map view.procedure (drop l.counted-index l.procs)) (length (drop l.counted-index l.procs)) ≡ l.first + points_before (map view.procedure l.procs) (map view.procedure l.procs) (length l.procs);
  assertion : l.assertion + assertions_before (map view.procedure l.procs) (map view.procedure (drop l.counted-index l.procs)) (length (drop l.counted-index l.procs)) ≡ 1 + assertions_before (map view.procedure l.procs) (map view.procedure l.procs) (length l.procs);
}
