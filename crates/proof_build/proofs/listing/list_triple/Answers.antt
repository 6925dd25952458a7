use Rattle.std.proofs.Common.{ap}
use Rattle.letter_acts.specs.Invariant.{alphabet_of}
use Rattle.itp_automaton.specs.Making.{named_in}
use Rattle.proof_build.proofs.NumberLaws.{two_numbered, three_numbered, more_then, more_twice, named_over}
use Rattle.proof_build.proofs.listing.list_triple.Goals as goal

pub returns-in_ok-list_pred-in-Back-2-clause-numbered : goal.returns-in_ok-list_pred-in-Back-2-clause-numbered
returns-in_ok-list_pred-in-Back-2-clause-numbered c =
    three_numbered c.args.icfg.now c.list_pred-in-Back.new.preds c.list_pred-in-Back-2.new.preds c.list_pred-in-Back-3.new.preds c.in-Back.exit c.in-Back.before c.in-Back.to (named_in c.args.triple.now)
    c.list_pred-in-Back-3.result c.in_ok-list_pred-in-Back.ensures.numbered c.in_ok-list_pred-in-Back-2.ensures.more c.in_ok-list_pred-in-Back-2.ensures.numbered
    c.list_pred-in-Back-3.ensures.more c.list_pred-in-Back-3.ensures.numbered (ap named_in c.in-Back.is)

pub returns-in_ok-list_pred-in-Inside-clause-numbered : goal.returns-in_ok-list_pred-in-Inside-clause-numbered
returns-in_ok-list_pred-in-Inside-clause-numbered c =
    two_numbered c.args.icfg.now c.list_pred.new.preds c.list_pred-in-Inside.new.preds c.in-Inside.from c.in-Inside.to (named_in c.args.triple.now)
    c.list_pred-in-Inside.result c.in_ok-list_pred-in-Inside.ensures.numbered c.list_pred-in-Inside.ensures.more c.list_pred-in-Inside.ensures.numbered (ap named_in c.in-Inside.is)

pub returns-in_ok-list_pred-in-Call-clause-numbered : goal.returns-in_ok-list_pred-in-Call-clause-numbered
returns-in_ok-list_pred-in-Call-clause-numbered c =
    two_numbered c.args.icfg.now c.list_pred-in-Call.new.preds c.list_pred-in-Call-2.new.preds c.in-Call.from c.in-Call.to (named_in c.args.triple.now)
    c.list_pred-in-Call-2.result c.in_ok-list_pred-in-Call.ensures.numbered c.list_pred-in-Call-2.ensures.more c.list_pred-in-Call-2.ensures.numbered (ap named_in c.in-Call.is)

pub list_pred-requires-clause-over : goal.list_pred-requires-clause-over
list_pred-requires-clause-over c =
    (named_over (alphabet_of c.args.icfg.now) c.args.triple.now _ c.requires.agrees (ap named_in c.in-Inside.is)).0

pub list_pred-requires-in-Inside-clause-over : goal.list_pred-requires-in-Inside-clause-over
list_pred-requires-in-Inside-clause-over c =
    (named_over (alphabet_of c.args.icfg.now) c.args.triple.now _ c.requires.agrees (ap named_in c.in-Inside.is)).1.0

pub list_pred-requires-clause-listed : goal.list_pred-requires-clause-listed
list_pred-requires-clause-listed c =
    c.requires.listed

pub list_pred-requires-in-Inside-clause-listed : goal.list_pred-requires-in-Inside-clause-listed
list_pred-requires-in-Inside-clause-listed c =
    c.in_ok-list_pred-in-Inside.ensures.more.listed

pub returns-in_ok-list_pred-in-Inside-clause-more : goal.returns-in_ok-list_pred-in-Inside-clause-more
returns-in_ok-list_pred-in-Inside-clause-more c =
    more_then c.args.icfg.now c.args.preds.now c.list_pred.new.preds c.list_pred-in-Inside.new.preds c.list_pred-in-Inside.result
    c.in_ok-list_pred-in-Inside.ensures.more c.list_pred-in-Inside.ensures.more

pub list_pred-requires-in-Call-clause-over : goal.list_pred-requires-in-Call-clause-over
list_pred-requires-in-Call-clause-over c =
    (named_over (alphabet_of c.args.icfg.now) c.args.triple.now _ c.requires.agrees (ap named_in c.in-Call.is)).0

pub list_pred-requires-in-Call-2-clause-over : goal.list_pred-requires-in-Call-2-clause-over
list_pred-requires-in-Call-2-clause-over c =
    (named_over (alphabet_of c.args.icfg.now) c.args.triple.now _ c.requires.agrees (ap named_in c.in-Call.is)).1.0

pub list_pred-requires-in-Call-clause-listed : goal.list_pred-requires-in-Call-clause-listed
list_pred-requires-in-Call-clause-listed c =
    c.requires.listed

pub list_pred-requires-in-Call-2-clause-listed : goal.list_pred-requires-in-Call-2-clause-listed
list_pred-requires-in-Call-2-clause-listed c =
    c.in_ok-list_pred-in-Call.ensures.more.listed

pub returns-in_ok-list_pred-in-Call-clause-more : goal.returns-in_ok-list_pred-in-Call-clause-more
returns-in_ok-list_pred-in-Call-clause-more c =
    more_then c.args.icfg.now c.args.preds.now c.list_pred-in-Call.new.preds c.list_pred-in-Call-2.new.preds c.list_pred-in-Call-2.result
    c.in_ok-list_pred-in-Call.ensures.more c.list_pred-in-Call-2.ensures.more

pub list_pred-requires-in-Back-clause-over : goal.list_pred-requires-in-Back-clause-over
list_pred-requires-in-Back-clause-over c =
    (named_over (alphabet_of c.args.icfg.now) c.args.triple.now _ c.requires.agrees (ap named_in c.in-Back.is)).0

pub list_pred-requires-in-Back-2-clause-over : goal.list_pred-requires-in-Back-2-clause-over
list_pred-requires-in-Back-2-clause-over c =
    (named_over (alphabet_of c.args.icfg.now) c.args.triple.now _ c.requires.agrees (ap named_in c.in-Back.is)).1.0

pub list_pred-requires-in-Back-3-clause-over : goal.list_pred-requires-in-Back-3-clause-over
list_pred-requires-in-Back-3-clause-over c =
    (named_over (alphabet_of c.args.icfg.now) c.args.triple.now _ c.requires.agrees (ap named_in c.in-Back.is)).1.1.0

pub list_pred-requires-in-Back-clause-listed : goal.list_pred-requires-in-Back-clause-listed
list_pred-requires-in-Back-clause-listed c =
    c.requires.listed

pub list_pred-requires-in-Back-2-clause-listed : goal.list_pred-requires-in-Back-2-clause-listed
list_pred-requires-in-Back-2-clause-listed c =
    c.in_ok-list_pred-in-Back.ensures.more.listed

pub list_pred-requires-in-Back-3-clause-listed : goal.list_pred-requires-in-Back-3-clause-listed
list_pred-requires-in-Back-3-clause-listed c =
    c.in_ok-list_pred-in-Back-2.ensures.more.listed

pub returns-in_ok-list_pred-in-Back-2-clause-more : goal.returns-in_ok-list_pred-in-Back-2-clause-more
returns-in_ok-list_pred-in-Back-2-clause-more c =
    more_twice c.args.icfg.now c.args.preds.now c.list_pred-in-Back.new.preds c.list_pred-in-Back-2.new.preds c.list_pred-in-Back-3.new.preds c.list_pred-in-Back-3.result
    c.in_ok-list_pred-in-Back.ensures.more c.in_ok-list_pred-in-Back-2.ensures.more c.list_pred-in-Back-3.ensures.more
