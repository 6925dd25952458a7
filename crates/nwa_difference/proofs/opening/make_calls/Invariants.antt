use Rattle.std.proofs.Common.{take}
use Rattle.nwa_difference.specs.Ties.Making.{Extends, Only, NoReturn, HasCall}
use Rattle.nwa_difference.specs.Ties.Seen.{seen}
use Rattle.nwa_difference.proofs.FollowLemmas.{Followed}
use Rattle.nwa_difference.proofs.opening.make_calls.Given as goal

abbrev pub invariant-loop-letter : goal.invariant-loop-letter
invariant-loop-letter l =
    Followed (λ s t. Extends s t (Only l.state) NoReturn) (λ s e. HasCall s l.state e.1 e.2) (seen l.initial.product) (seen l.product) (take l.letter-index l.letter-items)
