use Rattle.std.proofs.Common.{◌≡◌, ◌<◌, ◌+◌, ◌^◌, ◌++◌, map, drop}
use Rattle.typed_tree.specs.TypedView as view
use Rattle.typed_tree.specs.TypingRules.Counts.{block_points}
use Rattle.icfg_lower.specs.LabelPlaces.Ties.Ways.{places_of}
use Rattle.icfg_lower.proofs.label_places.labels.+labels.Given as goal

abbrev pub invariant-add_labels-loop-number : goal.invariant-add_labels-loop-number
invariant-add_labels-loop-number l = record {
  points : l.place + block_points (map view.procedure l.procs) (view.statements (drop l.number l.block)) < 2 ^ 32;
  found : l.found.items ++ places_of (map view.procedure l.procs) (view.statements (drop l.number l.block)) l.place l.after
      ≡ l.fn.found.items ++ places_of (map view.procedure l.procs) (view.statements l.block) l.at l.after;
}
