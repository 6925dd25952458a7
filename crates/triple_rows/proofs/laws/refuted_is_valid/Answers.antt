use Rattle.triple_rows.proofs.ValidLaws.{refuted_valid}
use Rattle.triple_rows.proofs.laws.refuted_is_valid.Goals as goal

pub returns : goal.returns
returns c = refuted_valid
