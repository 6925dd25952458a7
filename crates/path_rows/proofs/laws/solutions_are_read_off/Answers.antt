use Rattle.path_rows.proofs.WholeLaws.{read_off}
use Rattle.path_rows.proofs.laws.solutions_are_read_off.Goals as goal

pub returns : goal.returns
returns c = read_off
