use Rattle.trace_replay.proofs.PathTraces.ToldPoints.{positions_read}
use Rattle.trace_replay.proofs.path_traces.laws.positions_are_read.Goals as goal

pub returns : goal.returns
returns c = positions_read
