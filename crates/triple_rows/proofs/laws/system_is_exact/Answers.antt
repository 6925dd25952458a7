use Rattle.triple_rows.proofs.ValidLaws.{system_exact}
use Rattle.triple_rows.proofs.laws.system_is_exact.Goals as goal

pub returns : goal.returns
returns c = system_exact
