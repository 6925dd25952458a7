use Rattle.std.proofs.Common.{map, ◌∙◌}
use Rattle.typed_tree.specs.TypedView as view
use Rattle.icfg_lower.proofs.LabelPlaces.LabelSteps.{next_labels, next_points}
use Rattle.icfg_lower.proofs.label_places.labels.+labels.Goals as goal

pub add_labels-loop-number-preserved : goal.add_labels-loop-number-preserved
add_labels-loop-number-preserved t c = record {
  points = next_points (map view.procedure c.args.procs.now) c.args.block.now c.loop-number.number c.loop-number.place c.points.result _ c.index-block-number.result
      c.loop-number-test.true c.index-block-number.is c.points.ensures c.loop-number.invariant.points;
  found = next_labels (map view.procedure c.args.procs.now) c.args.block.now c.loop-number.number c.loop-number.place c.points.result c.next_place-next.result c.args.after
      c.before_last_labels-before_last.result c.index-block-number.result c.loop-number.found.items c.add_inner.new.found.items c.loop-number-test.true c.index-block-number.is
      c.points.ensures c.next_place-next.ensures c.before_last_labels-before_last.ensures c.in_ok-add_inner.ensures
      ∙ c.loop-number.invariant.found;
}
