use Rattle.std.proofs.Common.{◌∙◌, Some, map, refl, sym, ap, subst}
use Rattle.letter_acts.specs.declared.acts.Act.{Act}
use Rattle.letter_acts.specs.Acts.{plain_act}
use Rattle.letter_acts.specs.Invariant.{alphabet_of}
use Rattle.itp_automaton.specs.declared.sources.Source.TheVariants.{Inside, Call}
use Rattle.itp_automaton.specs.Settling.{AreActSources}
use Rattle.itp_automaton.proofs.sources.act_sources.Goals as goal

pub returns-in_ok-list-in-Inside : goal.returns-in_ok-list-in-Inside
returns-in_ok-list-in-Inside c =
    subst (λ (a : Act). AreActSources (alphabet_of c.args.icfg.now) c.args.states.now (Some (plain_act a)) c.in-Inside.proc c.in_ok-list-in-Inside.list.items) (sym c.in-Inside.is)
    (refl, c.in_ok-found-in-Inside.found.items, c.in_ok-found-in-Inside.ensures, c.in_ok-list-in-Inside.ensures ∙ ap (map Inside) c.deref.ensures.value)

pub returns-in_ok-list-in-Call : goal.returns-in_ok-list-in-Call
returns-in_ok-list-in-Call c =
    subst (λ (a : Act). AreActSources (alphabet_of c.args.icfg.now) c.args.states.now (Some (plain_act a)) c.in-Call.callee c.in_ok-list-in-Call.list.items) (sym c.in-Call.is)
    (refl, c.in_ok-found-in-Call.found.items, c.in_ok-found-in-Call.ensures, c.in_ok-list-in-Call.ensures ∙ ap (map Call) c.deref-in-Call.ensures.value)
