use Rattle.boogie_parse.proofs.Rules.ExpressionSound as sound
use Rattle.boogie_parse.proofs.Rules.ExpressionComplete as complete
use Rattle.boogie_parse.proofs.Rules.ExpressionRoom as room
use Rattle.boogie_parse.proofs.grammar.expressions.laws.reading_follows_the_grammar.Goals as goal

pub returns-clause-sound : goal.returns-clause-sound
returns-clause-sound c = sound.sound

pub returns-clause-complete : goal.returns-clause-complete
returns-clause-complete c = complete.complete

pub returns-clause-more_room : goal.returns-clause-more_room
returns-clause-more_room c = room.more_room
