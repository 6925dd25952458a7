use Rattle.std.proofs.Common.{◌≡◌, map, take}
use Rattle.std.specs.Prelude.{slice_index}
use Rattle.std.specs.List.{AllByRecursion}
use Rattle.lin_rows.specs.Rows.{IsRow}
use Rattle.letter_acts.specs.FrameRows.Rows.{equal_row}
use Rattle.triple_rows.proofs.pieces.equal_rows.Given as goal

abbrev pub invariant-loop-a : goal.invariant-loop-a
invariant-loop-a l =
    (l.made.items ≡ map (λ p. equal_row (slice_index l.left p.0) (slice_index l.right p.1)) (take l.a-index l.pairs)) × AllByRecursion IsRow l.made.items
