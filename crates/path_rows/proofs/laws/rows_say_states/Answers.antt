use Rattle.path_rows.proofs.WholeLaws.{rows_say_states}
use Rattle.path_rows.proofs.laws.rows_say_states.Goals as goal

pub returns : goal.returns
returns c = rows_say_states
