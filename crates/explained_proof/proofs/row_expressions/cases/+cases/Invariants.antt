use Rattle.explained_proof.proofs.row_expressions.cases.+cases.Given as goal

abbrev pub decreases-cases : goal.decreases-cases
decreases-cases l = l.count
