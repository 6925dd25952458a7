use Rattle.trace_replay.proofs.FailureLaws.{failure_text_injective}
use Rattle.trace_replay.proofs.laws.failure_texts_are_one_to_one.Goals as goal

pub returns : goal.returns
returns c = failure_text_injective
