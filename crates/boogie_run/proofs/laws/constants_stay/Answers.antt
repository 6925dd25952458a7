use Rattle.boogie_run.proofs.Constants.{constants_stay}
use Rattle.boogie_run.proofs.laws.constants_stay.Goals as goal

pub returns : goal.returns
returns c = λ t choices d valid e. constants_stay t valid choices d e
