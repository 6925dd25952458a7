use Rattle.std.proofs.Common.{◌≡◌, take}
use Rattle.letter_acts.proofs.frames.Frame.copy.Given as goal

abbrev pub invariant-loop-column : goal.invariant-loop-column
invariant-loop-column l = l.columns.items ≡ take l.column-index l.self.columns.items
