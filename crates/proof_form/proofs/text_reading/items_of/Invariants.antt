use Rattle.std.proofs.Common.{length}
use Rattle.proof_form.specs.TextReading.{content_of}
use Rattle.proof_form.proofs.StandingSteps.{Leads}
use Rattle.proof_form.proofs.text_reading.items_of.Given as goal

abbrev pub invariant-loop-bytes : goal.invariant-loop-bytes
invariant-loop-bytes l = Leads l.line l.first (content_of l.draft) l.rest l.text

abbrev pub decreases-loop-bytes : goal.decreases-loop-bytes
decreases-loop-bytes l = length l.rest
