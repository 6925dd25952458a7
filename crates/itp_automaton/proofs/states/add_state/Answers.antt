use Rattle.std.proofs.Common.{List, sym, subst}
use Rattle.triple_rows.specs.declared.triples.Scoped.{Scoped}
use Rattle.itp_automaton.specs.Ties.States.{AddsState}
use Rattle.itp_automaton.proofs.StateLaws.{added, there_already}
use Rattle.itp_automaton.proofs.states.add_state.Goals as goal

pub returns-in_ok-push-in-None : goal.returns-in_ok-push-in-None
returns-in_ok-push-in-None c =
    let s = c.args.state in
    subst (λ (l : List Scoped). AddsState c.args.states.now s l) (sym c.in_ok-push-in-None.ensures) (added c.args.states.now s c.in-None.ensures)

pub returns-in-Some : goal.returns-in-Some
returns-in-Some c = there_already c.args.states.now c.args.state c.in-Some.field-0 c.in-Some.ensures.0
