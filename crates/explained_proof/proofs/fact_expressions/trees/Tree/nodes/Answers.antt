use Rattle.explained_proof.proofs.FactExpressions.TreeLaws.{one_formula}
use Rattle.explained_proof.proofs.fact_expressions.trees.Tree.nodes.Goals as goal

pub returns-clause-value : goal.returns-clause-value
returns-clause-value c = one_formula c.args.self.nodes.now c.args.self.spelled
