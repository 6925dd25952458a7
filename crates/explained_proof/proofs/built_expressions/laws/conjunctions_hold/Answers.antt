use Rattle.explained_proof.proofs.BuiltExpressions.TruthLaws.{joined_holds, clauses_hold, two_hold, one_holds}
use Rattle.explained_proof.proofs.built_expressions.laws.conjunctions_hold.Goals as goal

pub returns : goal.returns
returns c = record { joined = joined_holds; clauses = clauses_hold; both = two_hold; one = one_holds }
