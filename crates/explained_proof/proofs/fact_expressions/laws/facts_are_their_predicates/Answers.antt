use Rattle.explained_proof.proofs.FactExpressions.TreeWorth.{holds_as_inequalities, inequalities_hold}
use Rattle.explained_proof.proofs.FactExpressions.OrderWorth.{either_holds}
use Rattle.explained_proof.proofs.FactExpressions.FactWorth.{facts_are_theirs}
use Rattle.explained_proof.proofs.fact_expressions.laws.facts_are_their_predicates.Goals as goal

pub returns : goal.returns
returns c = record { holds = holds_as_inequalities; inequalities = inequalities_hold; facts = facts_are_theirs; disjunctions = either_holds }
