use Rattle.std.proofs.Common.{arith, length}
use Rattle.race_core.proofs.Interleaved.{publication_is_taken, own_word_is_removed}
use Rattle.race_core.proofs.laws.own_word_is_removed.Goals as goal

pub returns : goal.returns
returns g c r base entry kept none keeps fair =
    let taken = (publication_is_taken r.end (length r.history) r.limit base).0 none in
    own_word_is_removed g.E.Evidence.automaton r base entry kept (omega (arith, taken.2)) keeps fair
