use Rattle.std.proofs.Common.{◌≡◌, drop}
use Rattle.std.specs.List.{list_all}
use Rattle.cond_jumps.specs.FreeProducts.Letters.{is_exact}
use Rattle.cond_jumps.specs.FreeProducts.LetterView.{seen}
use Rattle.cond_jumps.proofs.free_products.letters.all_exact.Given as goal

abbrev pub invariant-loop-row : goal.invariant-loop-row
invariant-loop-row l = list_all (is_exact (seen l.span) l.rows) (drop l.row-index l.rows) ≡ list_all (is_exact (seen l.span) l.rows) l.rows
