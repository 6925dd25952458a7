use Rattle.std.proofs.Common.{◌≡◌, ◌≤◌, true, map, drop, length}
use Rattle.std.specs.List.{list_all}
use Rattle.typed_tree.specs.TypedView as view
use Rattle.boogie_run.specs.BoogiePoints.Stacks.{is_label}
use Rattle.icfg_lower.proofs.label_places.ends.before_last_labels.Given as goal

abbrev pub decreases-loop-count : goal.decreases-loop-count
decreases-loop-count l = l.count

abbrev pub invariant-loop-count : goal.invariant-loop-count
invariant-loop-count l = record {
  within : l.count ≤ length l.block;
  labels : list_all is_label (map view.statement (drop l.count l.block)) ≡ true;
}
