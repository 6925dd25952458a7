use Rattle.boogie_parse.specs.Rules.GrammarLimits.{IsShallow}
use Rattle.boogie_parse.specs.Reading.ListReading.{expression_at}
use Rattle.boogie_parse.proofs.Rules.ListComplete.{formals-complete}
use Rattle.boogie_parse.proofs.Rules.ConditionComplete.{guard-complete, expression_at-complete}
use Rattle.boogie_parse.proofs.grammar.laws.lists_are_complete.Goals as goal

pub returns-clause-formals : goal.returns-clause-formals
returns-clause-formals c = formals-complete

pub returns-clause-guard : goal.returns-clause-guard
returns-clause-guard c end p ts g r = guard-complete (expression_at end) end IsShallow (expression_at-complete end) p ts g r
