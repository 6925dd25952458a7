use Rattle.std.proofs.Common.{◌∙◌, ap, subst}
use Rattle.nwa_base.specs.Automata.{Automaton, IsAutomaton}
use Rattle.proof_build.proofs.BuildLaws.{starts, unwound_is}
use Rattle.proof_build.proofs.building.unwound_by.Goals as goal

pub unwind-requires-clause-start : goal.unwind-requires-clause-start
unwind-requires-clause-start c = ap (λ (m : Automaton). m.start) c.nwa-3.ensures.value ∙ starts c.args.icfg.now c.nwa-3.ensures.valid

pub by_place-requires-clause-first : goal.by_place-requires-clause-first
by_place-requires-clause-first c = c.in_ok-found.ensures.exploring.first

pub by_place-requires-clause-states : goal.by_place-requires-clause-states
by_place-requires-clause-states c = c.in_ok-found.ensures.exploring.states

pub returns : goal.returns
returns c =
    unwound_is c.args.icfg.now c.nwa-3.result.now c.args.union.now c.in_ok-found.found c.by_place.result c.nwa-3.ensures.valid
    (subst (λ (m : Automaton). IsAutomaton m) c.nwa-2.ensures.value c.states.ensures.valid) c.nwa-3.ensures.value c.in_ok-found.ensures.exploring c.in_ok-found.ensures.opened
    c.by_place.ensures.exploring c.by_place.ensures.opened c.by_place.ensures.ascend
