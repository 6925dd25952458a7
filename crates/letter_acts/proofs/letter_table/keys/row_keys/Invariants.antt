use Rattle.std.proofs.Common.{◌≡◌, map, take}
use Rattle.letter_acts.specs.LetterTable.Ties.Keys.{plain_row}
use Rattle.letter_acts.proofs.letter_table.keys.row_keys.Given as goal

abbrev pub invariant-loop-row : goal.invariant-loop-row
invariant-loop-row l = map plain_row l.keys.items ≡ take l.row-index l.rows
