use Rattle.itp_automaton.proofs.StateLaws.{truths_next}
use Rattle.itp_automaton.proofs.states.truths.Goals as goal

pub loop-proc-preserved : goal.loop-proc-preserved
loop-proc-preserved c =
    truths_next c.loop-proc.proc c.loop-proc.states c.push.new.self c.push-in-loop-proc.new.self c.in_ok-shared_truth.field-0 c.in_ok-shared_truth-2.field-0
    c.loop-proc.invariant c.in_ok-shared_truth.ensures c.in_ok-shared_truth-2.ensures c.in_ok-push.ensures c.in_ok-push-2.ensures
