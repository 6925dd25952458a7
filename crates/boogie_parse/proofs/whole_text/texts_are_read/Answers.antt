use Rattle.boogie_parse.proofs.Rules.WholeText.{read_is_program, program_is_read, fault_says}
use Rattle.boogie_parse.proofs.whole_text.texts_are_read.Goals as goal

pub returns-clause-sound : goal.returns-clause-sound
returns-clause-sound c = read_is_program

pub returns-clause-complete : goal.returns-clause-complete
returns-clause-complete c = program_is_read

pub returns-clause-faults : goal.returns-clause-faults
returns-clause-faults c = fault_says
