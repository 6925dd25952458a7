use Rattle.std.proofs.Common.{length, ◌-◌}
use Rattle.simplex_rows.proofs.forms.push_products.Given as goal

abbrev pub decreases-loop-at : goal.decreases-loop-at
decreases-loop-at l = length l.terms - l.at
