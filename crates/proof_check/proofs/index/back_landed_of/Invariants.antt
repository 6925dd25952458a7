use Rattle.std.proofs.Common.{map}
use Rattle.std.specs.HashSet.{contains}
use Rattle.proof_names.specs.Outlines.{node}
use Rattle.proof_check.proofs.IndexLaws.{Keys}
use Rattle.proof_check.proofs.EntryLaws.{same_four, back_landed_key}
use Rattle.proof_check.proofs.index.back_landed_of.Given as goal

abbrev pub invariant-loop-step : goal.invariant-loop-step
invariant-loop-step l = Keys (back_landed_key (map node l.nodes)) l.moves l.step-index (contains same_four l.landed)
