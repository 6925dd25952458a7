use Rattle.std.proofs.Common.{sym, subst}
use Rattle.nwa_base.specs.Automata.{Automaton}
use Rattle.nwa_base.specs.Acceptance.{Accepts}
use Rattle.nwa_base.proofs.RunLemmas.{accepted_by_run}
use Rattle.trace_replay.proofs.choosing.accepting_run.Goals as goal

pub unreachable-requires : goal.unreachable-requires
unreachable-requires c =
    let accepted : Accepts c.nwa.result.now c.args.word.now = subst (λ (m : Automaton). Accepts m c.args.word.now) (sym c.nwa.ensures.value) c.requires in
    (rw c.in-None.is at c.in_ok-run.ensures) ((accepted_by_run c.nwa.result.now c.args.word.now).0 accepted)
