use Rattle.std.specs.HashMap.{get}
use Rattle.nwa_base.specs.Groups.{grouped}
use Rattle.proof_check.proofs.IndexLaws.{Groups}
use Rattle.proof_check.proofs.EntryLaws.{same_two, call_entry}
use Rattle.proof_check.proofs.index.call_sources.Given as goal

abbrev pub invariant-loop-triple : goal.invariant-loop-triple
invariant-loop-triple l = Groups call_entry l.triples l.triple-index (λ k. grouped (get same_two l.groups.by_key k))
