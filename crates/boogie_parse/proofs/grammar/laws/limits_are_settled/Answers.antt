use Rattle.boogie_parse.proofs.Faults.SettledPrograms.{limit_settled}
use Rattle.boogie_parse.proofs.grammar.laws.limits_are_settled.Goals as goal

pub returns : goal.returns
returns c = limit_settled
