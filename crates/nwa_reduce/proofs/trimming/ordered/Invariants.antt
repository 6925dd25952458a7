use Rattle.std.proofs.Common.{take}
use Rattle.nwa_reduce.proofs.NameLemmas.{IsOrderTo}
use Rattle.nwa_reduce.proofs.trimming.ordered.Given as goal

abbrev pub invariant-loop-state : goal.invariant-loop-state
invariant-loop-state l = IsOrderTo l.reached (take l.state-index l.ending) l.kept
