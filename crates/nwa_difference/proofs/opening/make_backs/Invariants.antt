use Rattle.std.proofs.Common.{take}
use Rattle.nwa_difference.specs.Ties.Making.{Extends, Nowhere, OnlyReturn, HasBack}
use Rattle.nwa_difference.specs.Ties.Seen.{seen}
use Rattle.nwa_difference.proofs.FollowLemmas.{Followed}
use Rattle.nwa_difference.proofs.opening.make_backs.Given as goal

abbrev pub invariant-loop-letter : goal.invariant-loop-letter
invariant-loop-letter l =
    Followed (λ s t. Extends s t Nowhere (OnlyReturn l.state l.before)) (λ s e. HasBack s l.state l.before e.2 e.3) (seen l.initial.product) (seen l.product)
    (take l.letter-index l.letter-items)
