use Rattle.explained_proof.proofs.ExplainedRuns.Sited.{invariants_hold}
use Rattle.explained_proof.proofs.explained_runs.laws.invariants_hold.Goals as goal

pub returns : goal.returns
returns c = invariants_hold
