use Rattle.std.proofs.Common.{refl}
use Rattle.trace_replay.specs.FailureText.{plain}
use Rattle.text_reports.specs.ReportCases.{replayed, stopped}
use Rattle.text_reports.proofs.failures.replayed_failure.Goals as goal

pub returns-in-Ok : goal.returns-in-Ok
returns-in-Ok c = λ text read. replayed (plain c.args.failure.now) c.in-Ok.id read c.in-Ok.ensures.found refl

pub returns-in-Err-At : goal.returns-in-Err-At
returns-in-Err-At c = λ text read. stopped (plain c.args.failure.now) c.in-Err-At.step c.in-Err-At.cause read (rw c.in-Err-At.field-0-is at c.in-Err-At.ensures.stopped) refl
