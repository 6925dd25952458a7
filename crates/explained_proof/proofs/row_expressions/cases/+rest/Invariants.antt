use Rattle.std.proofs.Common.{length, ◌-◌}
use Rattle.explained_proof.proofs.row_expressions.cases.+rest.Given as goal

abbrev pub decreases-rest : goal.decreases-rest
decreases-rest l = length l.truths.now - l.place
