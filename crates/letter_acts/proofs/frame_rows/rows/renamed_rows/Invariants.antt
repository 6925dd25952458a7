use Rattle.std.proofs.Common.{◌≡◌, map, take}
use Rattle.std.specs.Prelude.{slice_index}
use Rattle.std.specs.List.{AllByRecursion}
use Rattle.lin_rows.specs.Rows.{IsRow}
use Rattle.letter_acts.specs.FrameRows.Rows.{renamed}
use Rattle.letter_acts.proofs.frame_rows.rows.renamed_rows.Given as goal

abbrev pub invariant-loop-row : goal.invariant-loop-row
invariant-loop-row l = (l.made.items ≡ map (renamed (slice_index l.names)) (take l.row-index l.rows)) × AllByRecursion IsRow l.made.items
