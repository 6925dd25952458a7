use Rattle.trace_replay.proofs.ReplayFailures.{failing_run_replays}
use Rattle.trace_replay.proofs.laws.failing_runs_replay.Goals as goal

pub returns : goal.returns
returns c = failing_run_replays
