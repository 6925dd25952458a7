use Rattle.proof_form.proofs.OneLaws.{one_pred, one_triple, one_node, one_step}
use Rattle.proof_form.proofs.laws.lines_have_one_value.Goals as goal

pub returns-clause-preds : goal.returns-clause-preds
returns-clause-preds c = one_pred

pub returns-clause-triples : goal.returns-clause-triples
returns-clause-triples c = one_triple

pub returns-clause-nodes : goal.returns-clause-nodes
returns-clause-nodes c = one_node

pub returns-clause-steps : goal.returns-clause-steps
returns-clause-steps c = one_step
