use Rattle.std.proofs.Common.{◌≡◌, drop}
use Rattle.cond_jumps.specs.FreeProducts.LetterView.{seen, cleared_rows}
use Rattle.cond_jumps.proofs.free_products.ties.clear_plain.Given as goal

abbrev pub invariant-loop-row : goal.invariant-loop-row
invariant-loop-row l = cleared_rows (seen l.span) (drop l.row-index l.rows) l.out ≡ cleared_rows (seen l.span) l.rows l.fn.out
