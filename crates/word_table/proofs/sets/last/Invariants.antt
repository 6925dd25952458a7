use Rattle.std.proofs.Common.{◌<◌, length}
use Rattle.word_table.proofs.sets.last.Given as goal

abbrev pub invariant-loop-letter : goal.invariant-loop-letter
invariant-loop-letter l = (l.before < length l.sets.sets) × (l.here < length l.sets.sets)
