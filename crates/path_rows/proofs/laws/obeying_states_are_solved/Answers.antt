use Rattle.path_rows.proofs.WholeLaws.{solved}
use Rattle.path_rows.proofs.laws.obeying_states_are_solved.Goals as goal

pub returns : goal.returns
returns c = solved
