use Rattle.std.proofs.Common.{sym, subst}
use Rattle.letter_acts.specs.Invariant.{alphabet_of}
use Rattle.itp_automaton.specs.Settling.{AreSources}
use Rattle.itp_automaton.proofs.settling.settle_letter.Goals as goal

pub settle_triples-requires : goal.settle_triples-requires
settle_triples-requires c =
    subst (AreSources (alphabet_of c.args.icfg.now) c.args.states.now c.args.letter c.in_ok-sources.sources.proc) (sym c.deref.ensures.value) c.in_ok-sources.ensures
