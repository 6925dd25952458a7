use Rattle.std.proofs.Common.{◌≡◌, ◌<◌, ◌+◌, ◌^◌, ◌++◌, map, drop}
use Rattle.typed_tree.specs.TypedView as view
use Rattle.typed_tree.specs.TypingRules.Counts.{all_places}
use Rattle.boogie_run.specs.BoogiePoints.Numbered.{numbered}
use Rattle.boogie_run.proofs.boogie_points.numbers.all_firsts.Given as goal

abbrev pub invariant-loop-counted : goal.invariant-loop-counted
invariant-loop-counted l = record {
  ids : l.id + all_places (map view.procedure l.procs) (map view.procedure (drop l.counted-index l.procs)) < 2 ^ 32;
  places : l.at + all_places (map view.procedure l.procs) (map view.procedure (drop l.counted-index l.procs)) < 2 ^ 32;
  numbered : l.found.items ++ numbered (map view.procedure l.procs) l.id l.at (map view.procedure (drop l.counted-index l.procs)) ≡ numbered (map view.procedure l.procs) 1 l.first (map view.procedure l.procs);
}
