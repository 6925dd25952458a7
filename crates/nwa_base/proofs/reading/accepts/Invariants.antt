use Rattle.std.proofs.Common.{◌∷◌}
use Rattle.nwa_base.specs.Ties.Reading.{sets_of}
use Rattle.nwa_base.proofs.ReadingLemmas.{IsReading}
use Rattle.nwa_base.proofs.reading.accepts.Given as goal

abbrev pub invariant-loop-letter : goal.invariant-loop-letter
invariant-loop-letter l = IsReading l.nwa l.letter-items l.letter-index (l.here.items ∷ sets_of l.saved.items)
