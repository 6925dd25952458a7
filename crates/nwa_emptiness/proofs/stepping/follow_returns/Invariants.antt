use Rattle.std.proofs.Common.{take}
use Rattle.nwa_base.specs.Members.{Member}
use Rattle.nwa_emptiness.specs.Ties.Seen.{seen}
use Rattle.nwa_emptiness.proofs.StepLemmas.{Followed}
use Rattle.nwa_emptiness.proofs.stepping.follow_returns.Given as goal

abbrev pub invariant-loop-letter : goal.invariant-loop-letter
invariant-loop-letter l =
    Followed (seen l.initial.search) (seen l.search) (take l.letter-index l.letter-items) (λ s e. Member s.pairs (l.outer.entry, e.3))
