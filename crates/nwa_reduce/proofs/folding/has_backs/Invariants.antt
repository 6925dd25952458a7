use Rattle.std.proofs.Common.{take}
use Rattle.nwa_reduce.specs.Ties.Naming.{named}
use Rattle.nwa_reduce.specs.Ties.Folding.{ReturnsToName}
use Rattle.nwa_reduce.proofs.EachLemmas.{Each}
use Rattle.nwa_reduce.proofs.folding.has_backs.Given as goal

abbrev pub invariant-loop-letter : goal.invariant-loop-letter
invariant-loop-letter l = Each (take l.letter-index l.edges) (λ e. ReturnsToName l.nwa.backs (named l.names.of.items) l.exit l.before e.2 e.3)
