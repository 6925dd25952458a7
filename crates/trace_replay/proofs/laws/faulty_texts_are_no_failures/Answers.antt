use Rattle.trace_replay.proofs.FailureLaws.{no_failure_text}
use Rattle.trace_replay.proofs.laws.faulty_texts_are_no_failures.Goals as goal

pub returns : goal.returns
returns c text line f fault h = no_failure_text text line fault f h
