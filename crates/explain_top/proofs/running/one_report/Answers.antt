use Rattle.explain_top.proofs.ReportUnique.{answered_once}
use Rattle.explain_top.proofs.running.one_report.Goals as goal

pub returns : goal.returns
returns c = answered_once c.nodes_are_named_once.ensures
