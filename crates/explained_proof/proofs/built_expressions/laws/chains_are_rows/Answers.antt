use Rattle.explained_proof.proofs.BuiltExpressions.ChainWorth.{chains_worth}
use Rattle.explained_proof.proofs.built_expressions.laws.chains_are_rows.Goals as goal

pub returns : goal.returns
returns c = chains_worth
