use Rattle.boogie_parse.proofs.Rules.ExpressionRoom as room
use Rattle.boogie_parse.proofs.grammar.expressions.laws.one_expression.Goals as goal

pub returns-clause-one : goal.returns-clause-one
returns-clause-one c = room.one_expression

pub returns-clause-none : goal.returns-clause-none
returns-clause-none c = room.no_expression
