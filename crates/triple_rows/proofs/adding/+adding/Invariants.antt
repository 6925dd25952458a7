use Rattle.std.proofs.Common.{◌+◌, ◌*◌, length}
use Rattle.std.specs.Prelude.{slice_index}
use Rattle.triple_rows.specs.Reading.{IsRest}
use Rattle.triple_rows.proofs.AddingLaws.{IsAdding, IsGathering}
use Rattle.triple_rows.proofs.adding.+adding.Given as goal

abbrev pub decreases-add_tree : goal.decreases-add_tree
decreases-add_tree l = 2 * length l.nodes.now

abbrev pub decreases-add_parts : goal.decreases-add_parts
decreases-add_parts l = 2 * length l.nodes.now + 1

abbrev pub decreases-add_group : goal.decreases-add_group
decreases-add_group l = 2 * length l.nodes.now + 1

abbrev pub invariant-add_parts-loop-i : goal.invariant-add_parts-loop-i
invariant-add_parts-loop-i l = IsRest l._i l.nodes l.rest × IsAdding l.deny (slice_index l.columns) l._i l.nodes l.initial.draft l.draft

abbrev pub invariant-add_group-loop-i : goal.invariant-add_group-loop-i
invariant-add_group-loop-i l = IsRest l._i l.nodes l.rest × IsGathering l.deny (slice_index l.columns) l._i l.nodes l.members.items
