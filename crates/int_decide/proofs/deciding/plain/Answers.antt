use Rattle.farkas_check.specs.Nodes.{plain_nodes}
use Rattle.int_decide.proofs.Closing.{closed_worth, closed_fits}
use Rattle.int_decide.proofs.deciding.plain.Goals as goal

pub returns-in-Closed-clause-worth : goal.returns-in-Closed-clause-worth
returns-in-Closed-clause-worth c =
    closed_worth c.args.columns c.args.depth c.args.system.now (plain_nodes c.in-Closed.nodes.items) c.checked.result c.checked.ensures.value c.checked.ensures.refutes
    (rw c.in-Closed.is at c.in_ok-values.ensures.1)

pub returns-in-Closed-clause-fits : goal.returns-in-Closed-clause-fits
returns-in-Closed-clause-fits c =
    closed_fits c.args.columns c.args.depth c.args.system.now (plain_nodes c.in-Closed.nodes.items) c.checked.result c.checked.ensures.refutes c.in_ok-values.ensures.0
    (rw c.in-Closed.is at c.in_ok-values.ensures.1)
