use Rattle.boogie_parse.specs.Reading.ListReading.{expression_at}
use Rattle.boogie_parse.proofs.Rules.ConditionSound.{expression_at-sound}
use Rattle.boogie_parse.proofs.Rules.StatementSound.{list-sound}
use Rattle.boogie_parse.proofs.grammar.laws.statements_are_read.Goals as goal

pub returns : goal.returns
returns c end p b ts = list-sound (expression_at end) end p (expression_at-sound end) b ts
