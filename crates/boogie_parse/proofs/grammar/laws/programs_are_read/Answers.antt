use Rattle.boogie_parse.specs.Reading.ListReading.{expression_at}
use Rattle.boogie_parse.proofs.Rules.ConditionSound.{expression_at-sound}
use Rattle.boogie_parse.proofs.Rules.ProgramSound.{program-sound}
use Rattle.boogie_parse.proofs.grammar.laws.programs_are_read.Goals as goal

pub returns : goal.returns
returns c end p b v q ts = program-sound (expression_at end) end p b v (expression_at-sound end) q ts
