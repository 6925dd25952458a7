use Rattle.explained_proof.proofs.FactExpressions.SaidWorth.{conclusions_follow, premises_imply, alternatives_conclude, alternatives_premise}
use Rattle.explained_proof.proofs.fact_expressions.laws.facts_are_said_soundly.Goals as goal

pub returns : goal.returns
returns c = record { conclusions = conclusions_follow; premises = premises_imply; alternatives = alternatives_conclude; alternative_premises = alternatives_premise }
