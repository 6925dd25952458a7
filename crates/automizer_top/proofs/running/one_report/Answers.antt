use Rattle.automizer_top.proofs.ReportUnique.{report_once}
use Rattle.automizer_top.proofs.running.one_report.Goals as goal

pub returns : goal.returns
returns c = report_once
