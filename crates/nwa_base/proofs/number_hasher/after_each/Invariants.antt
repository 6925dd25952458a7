use Rattle.std.proofs.Common.{◌≡◌, take, fold}
use Rattle.nwa_base.specs.NumberHashes.{mixed}
use Rattle.nwa_base.proofs.number_hasher.after_each.Given as goal

abbrev pub invariant-loop-byte : goal.invariant-loop-byte
invariant-loop-byte l = l.after ≡ fold mixed l.state (take l.byte-index l.bytes)
