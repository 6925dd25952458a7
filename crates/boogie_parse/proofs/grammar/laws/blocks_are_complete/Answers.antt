use Rattle.boogie_parse.specs.Rules.GrammarLimits.{IsShallow}
use Rattle.boogie_parse.specs.Reading.ListReading.{expression_at}
use Rattle.boogie_parse.proofs.Rules.ConditionComplete.{expression_at-complete}
use Rattle.boogie_parse.proofs.Rules.StatementComplete.{block-read}
use Rattle.boogie_parse.proofs.grammar.laws.blocks_are_complete.Goals as goal

pub returns : goal.returns
returns c end p b ts x r = block-read (expression_at end) end IsShallow (expression_at-complete end) p b ts x r
