use Rattle.std.proofs.Common.{◌+◌, ◌-◌, ◌*◌, ◌<◌, ◌≤◌}
use Rattle.triple_rows.specs.Reading.{AreAfterTrees}
use Rattle.triple_rows.proofs.reading.+trees.Given as goal

abbrev pub decreases-after_parts : goal.decreases-after_parts
decreases-after_parts l = 2 * l.depth

abbrev pub decreases-after_tree : goal.decreases-after_tree
decreases-after_tree l = 2 * l.depth + 1

abbrev pub invariant-after_parts-loop-i : goal.invariant-after_parts-loop-i
invariant-after_parts-loop-i l = (2 ≤ l.count) × (0 < l.depth) × AreAfterTrees l._i (l.depth - 1) l.nodes l.left
