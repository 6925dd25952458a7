use Rattle.std.proofs.Common.{◌≡◌, ◌++◌, drop}
use Rattle.cond_jumps.specs.FreeProducts.LetterView.{numbered}
use Rattle.cond_jumps.proofs.free_products.letters.places.Given as goal

abbrev pub invariant-loop-left : goal.invariant-loop-left
invariant-loop-left l = l.places.items ++ numbered l.next (drop l.left-index l.out) ≡ numbered 0 l.out
