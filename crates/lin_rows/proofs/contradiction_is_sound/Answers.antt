use Rattle.lin_rows.proofs.Contradiction.{contradicted}
use Rattle.lin_rows.proofs.contradiction_is_sound.Goals as goal

pub returns : goal.returns
returns c = contradicted
