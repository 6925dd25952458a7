use Rattle.std.proofs.Common.{◌≡◌, ◌≤◌, ◌-◌, length, drop}
use Rattle.cond_jumps.specs.FreeProducts.Letters.{product_of}
use Rattle.cond_jumps.specs.FreeProducts.LetterView.{seen, tabulated}
use Rattle.cond_jumps.proofs.free_products.ties.products_of.Given as goal

abbrev pub invariant-loop-place : goal.invariant-loop-place
invariant-loop-place l =
    (l.place ≤ length l.rows) × (l.products.items ≡ tabulated (product_of (seen l.span) (drop l.place l.rows)) l.span.base (l.span.top - l.span.base))

abbrev pub decreases-loop-place : goal.decreases-loop-place
decreases-loop-place l = l.place
