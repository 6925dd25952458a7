use Rattle.std.proofs.Common.{take}
use Rattle.nwa_reduce.specs.Ties.Naming.{named}
use Rattle.nwa_reduce.specs.Ties.Folding.{IsJoinCopy}
use Rattle.nwa_reduce.proofs.EachLemmas.{Each}
use Rattle.nwa_reduce.proofs.folding.joins_are_copies.Given as goal

abbrev pub invariant-loop-before : goal.invariant-loop-before
invariant-loop-before l = Each (take l.before-index l.joins) (λ x. IsJoinCopy l.nwa (named l.names.of.items) l.image x.0 x.1)
