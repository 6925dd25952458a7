use Rattle.std.proofs.Common.{◌∷◌}
use Rattle.nwa_base.specs.Ties.Reading.{sets_of}
use Rattle.nwa_base.proofs.TracingLemmas.{IsPartRead}
use Rattle.nwa_base.proofs.tracing.past_of.Given as goal

abbrev pub invariant-loop-letter : goal.invariant-loop-letter
invariant-loop-letter l = IsPartRead l.nwa l.letters l.letter-index l.steps.items (l.here.items ∷ sets_of l.saved.items)
