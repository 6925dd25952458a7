use Rattle.std.proofs.Common.{◌≡◌, drop}
use Rattle.cond_jumps.specs.FreeProducts.LetterView.{cleared}
use Rattle.cond_jumps.proofs.free_products.ties.clear.Given as goal

abbrev pub invariant-loop-column : goal.invariant-loop-column
invariant-loop-column l = cleared (drop l.column-index l.row.terms) l.out ≡ cleared l.row.terms l.fn.out
