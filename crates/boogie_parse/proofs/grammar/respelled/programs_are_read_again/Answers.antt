use Rattle.boogie_parse.proofs.Spelling.RespelledPrograms.{program-again}
use Rattle.boogie_parse.proofs.Spelling.RespelledLimits.{program-spelled-again, text-again}
use Rattle.boogie_parse.proofs.grammar.respelled.programs_are_read_again.Goals as goal

pub returns-clause-grammar : goal.returns-clause-grammar
returns-clause-grammar c p b ts us groups d w = program-again d w us

pub returns-clause-limits : goal.returns-clause-limits
returns-clause-limits c = program-spelled-again

pub returns-clause-texts : goal.returns-clause-texts
returns-clause-texts c = text-again
