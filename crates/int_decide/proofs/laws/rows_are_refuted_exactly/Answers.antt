use Rattle.int_decide.proofs.Exactness.{refuted_exactly}
use Rattle.int_decide.proofs.laws.rows_are_refuted_exactly.Goals as goal

pub returns : goal.returns
returns c = refuted_exactly
