use Rattle.std.proofs.Common.{take}
use Rattle.nwa_reduce.specs.Ties.Naming.{named}
use Rattle.nwa_reduce.specs.Ties.Folding.{LeadsToName}
use Rattle.nwa_reduce.proofs.EachLemmas.{Each}
use Rattle.nwa_reduce.proofs.folding.has_calls.Given as goal

abbrev pub invariant-loop-letter : goal.invariant-loop-letter
invariant-loop-letter l = Each (take l.letter-index l.edges) (λ e. LeadsToName l.nwa.calls (named l.names.of.items) l.state e.1 e.2)
