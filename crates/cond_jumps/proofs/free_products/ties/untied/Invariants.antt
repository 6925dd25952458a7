use Rattle.std.proofs.Common.{◌≡◌, ◌≤◌, ◌-◌, length, replicate, None}
use Rattle.cond_jumps.proofs.free_products.ties.untied.Given as goal

abbrev pub invariant-loop-products : goal.invariant-loop-products
invariant-loop-products l = (length l.products.items ≤ l.helpers) × (l.products.items ≡ replicate (length l.products.items) None)

abbrev pub decreases-loop-products : goal.decreases-loop-products
decreases-loop-products l = l.helpers - length l.products.items
