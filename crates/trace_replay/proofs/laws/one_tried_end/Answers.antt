use Rattle.trace_replay.proofs.TriedLaws.{one_tried_end}
use Rattle.trace_replay.proofs.laws.one_tried_end.Goals as goal

pub returns : goal.returns
returns c = one_tried_end
