use Rattle.std.proofs.Common.{◌^◌, ◌<◌, ◌∷◌, length}
use Rattle.std.specs.Fmt.{decimal}
use Rattle.rank_lasso.proofs.Items.{AreItems}
use Rattle.rank_lasso.proofs.letters.letters_of.Given as goal

abbrev pub invariant-loop-rest : goal.invariant-loop-rest
invariant-loop-rest l = AreItems (λ n. n < 2 ^ 32) (λ n. 32 ∷ decimal n) l.bytes l.letters.items l.rest

abbrev pub decreases-loop-rest : goal.decreases-loop-rest
decreases-loop-rest l = length l.rest
