use Rattle.std.proofs.Common.{◌≡◌, map}
use Rattle.cond_jumps.specs.Conjs.{conjunctions}
use Rattle.cond_jumps.specs.FreeProducts.LetterView.{all_marked, exact_letter}
use Rattle.cond_jumps.proofs.free_products.conditions.all_exact.Given as goal

abbrev pub invariant-loop-conj : goal.invariant-loop-conj
invariant-loop-conj l = all_marked l.all.items ≡ map exact_letter (conjunctions l.yielded)
