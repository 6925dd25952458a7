use Rattle.int_decide.proofs.Enough.{enough_decision, enough_numbers}
use Rattle.int_decide.proofs.laws.group_count_is_enough.Goals as goal

pub returns : goal.returns
returns c = record { decision = enough_decision; numbers = enough_numbers }
