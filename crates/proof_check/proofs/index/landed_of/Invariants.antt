use Rattle.std.proofs.Common.{map}
use Rattle.std.specs.HashSet.{contains}
use Rattle.proof_names.specs.Outlines.{node}
use Rattle.proof_check.proofs.IndexLaws.{Keys}
use Rattle.proof_check.proofs.EntryLaws.{same_three, landed_key}
use Rattle.proof_check.proofs.index.landed_of.Given as goal

abbrev pub invariant-loop-step : goal.invariant-loop-step
invariant-loop-step l = Keys (landed_key (map node l.nodes)) l.moves l.step-index (contains same_three l.landed)
