use Rattle.std.proofs.Common.{◌≡◌, ◌++◌, map, drop}
use Rattle.std.specs.List.{AllByRecursion}
use Rattle.lin_rows.specs.Rows.{IsRow}
use Rattle.cond_jumps.specs.FreeProducts.Letters.{plain_rows}
use Rattle.cond_jumps.specs.FreeProducts.LetterView.{seen, placed_row}
use Rattle.cond_jumps.proofs.free_products.letters.kept_rows.Given as goal

abbrev pub invariant-loop-given : goal.invariant-loop-given
invariant-loop-given l =
    AllByRecursion (λ r. IsRow r → IsRow (placed_row l.places r)) (plain_rows (seen l.span) (drop l.given-index l.rows))
    × (l.kept.items ++ map (placed_row l.places) (plain_rows (seen l.span) (drop l.given-index l.rows)) ≡ map (placed_row l.places) (plain_rows (seen l.span) l.rows))
