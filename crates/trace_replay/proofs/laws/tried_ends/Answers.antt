use Rattle.trace_replay.proofs.TriedEnds.{tried_ends}
use Rattle.trace_replay.proofs.laws.tried_ends.Goals as goal

pub returns : goal.returns
returns c = tried_ends
