use Rattle.std.proofs.Common.{◌↔◌, drop}
use Rattle.nwa_base.specs.Pairs.{HasFinal}
use Rattle.nwa_base.proofs.reading.final_pair.Given as goal

abbrev pub invariant-loop-pair : goal.invariant-loop-pair
invariant-loop-pair l = HasFinal l.nwa (drop l.pair-index l.set) ↔ HasFinal l.nwa l.set
