use Rattle.std.proofs.Common.{◌≡◌, ◌+◌, ◌-◌, ◌≤◌, ◌++◌}
use Rattle.cond_jumps.specs.FreeProducts.FrameLetters.{product_columns, widened}
use Rattle.cond_jumps.proofs.free_products.conditions.widened.Given as goal

abbrev pub invariant-loop-made : goal.invariant-loop-made
invariant-loop-made l =
    (l.made ≤ l.count) × (l.wide.columns.items ++ product_columns (l.locals + l.made) (l.count - l.made) ≡ widened l.frame.columns.items l.locals l.count)

abbrev pub decreases-loop-made : goal.decreases-loop-made
decreases-loop-made l = l.count - l.made
