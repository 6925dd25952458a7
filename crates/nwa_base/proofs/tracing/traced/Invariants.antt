use Rattle.std.proofs.Common.{vec_len, reverse}
use Rattle.nwa_base.specs.Ties.Reading.{sets_of}
use Rattle.nwa_base.proofs.TracingLemmas.{IsTracing}
use Rattle.nwa_base.proofs.tracing.traced.Given as goal

abbrev pub invariant-loop-step : goal.invariant-loop-step
invariant-loop-step l = IsTracing l.nwa l.letters l.steps.items (reverse l.keys.items) l.here (sets_of l.saved.items) l.run.items

abbrev pub decreases-loop-step : goal.decreases-loop-step
decreases-loop-step l = vec_len l.steps
