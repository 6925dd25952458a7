use Rattle.std.proofs.Common.{◌≡◌, ◌≤◌, ◌||◌}
use Rattle.std.specs.Option.{is_some}
use Rattle.cond_jumps.specs.FreeProducts.Letters.{is_product_column}
use Rattle.cond_jumps.specs.FreeProducts.LetterView.{seen, tabulated, tied_by}
use Rattle.cond_jumps.proofs.free_products.ties.left_out.Given as goal

abbrev pub invariant-loop-column : goal.invariant-loop-column
invariant-loop-column l =
    (l.column ≤ l.span.top) × (l.out.items ≡ tabulated (λ c. is_product_column (seen l.span) c || is_some (tied_by (seen l.span) l.products c)) 0 l.column)
