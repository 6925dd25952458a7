use Rattle.std.proofs.Common.{◌≡◌, ◌++◌, drop}
use Rattle.math_facts.specs.Terms.{opposite}
use Rattle.rank_lasso.specs.LassoTurns.Claims.{at_versions}
use Rattle.rank_lasso.proofs.ranking_system.points.fall_row.Given as goal

abbrev pub invariant-loop-column : goal.invariant-loop-column
invariant-loop-column l = l.given.items ++ opposite (at_versions l.after (drop l.column-index l.terms)) ≡ l.terms ++ opposite (at_versions l.after l.terms)
