use Rattle.std.proofs.Common.{◌≡◌, ◌++◌, drop}
use Rattle.cond_jumps.specs.FreeProducts.LetterView.{placed_terms}
use Rattle.cond_jumps.proofs.free_products.letters.placed_terms.Given as goal

abbrev pub invariant-loop-column : goal.invariant-loop-column
invariant-loop-column l = l.all.items ++ placed_terms l.places (drop l.column-index l.terms) ≡ placed_terms l.places l.terms
