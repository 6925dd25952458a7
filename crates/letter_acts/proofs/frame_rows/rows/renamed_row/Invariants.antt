use Rattle.std.proofs.Common.{◌≡◌, map, take}
use Rattle.std.specs.Prelude.{slice_index}
use Rattle.letter_acts.proofs.frame_rows.rows.renamed_row.Given as goal

abbrev pub invariant-loop-column : goal.invariant-loop-column
invariant-loop-column l = l.terms.items ≡ map (λ t. (slice_index l.names t.0, t.1)) (take l.column-index l.column-items)
