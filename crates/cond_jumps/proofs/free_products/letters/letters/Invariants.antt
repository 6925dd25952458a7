use Rattle.std.proofs.Common.{◌≡◌, ◌++◌, map, drop}
use Rattle.cond_jumps.specs.Conjs.{conjunctions}
use Rattle.cond_jumps.specs.FreeProducts.Letters.{marked_letter}
use Rattle.cond_jumps.specs.FreeProducts.LetterView.{all_marked}
use Rattle.cond_jumps.proofs.free_products.letters.letters.Given as goal

abbrev pub invariant-loop-conj : goal.invariant-loop-conj
invariant-loop-conj l =
    all_marked l.all.items ++ map (marked_letter l.low l.count l.more) (conjunctions (drop l.conj-index l.conjs)) ≡ map (marked_letter l.low l.count l.more) (conjunctions l.conjs)
