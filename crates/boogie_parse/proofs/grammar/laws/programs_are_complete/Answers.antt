use Rattle.boogie_parse.proofs.Rules.ProgramComplete.{program-complete}
use Rattle.boogie_parse.proofs.grammar.laws.programs_are_complete.Goals as goal

pub returns : goal.returns
returns c = program-complete
