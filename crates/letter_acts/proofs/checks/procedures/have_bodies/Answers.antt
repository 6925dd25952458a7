use Rattle.letter_acts.proofs.LoopLemmas.{not_so}
use Rattle.letter_acts.proofs.BodyLemmas.{lengths_agree, body_step, bodies_end}
use Rattle.letter_acts.proofs.checks.procedures.have_bodies.Goals as goal

pub returns-then-entries-exits : goal.returns-then-entries-exits
returns-then-entries-exits c = not_so _ (λ h. c.if-entries-exits.true (lengths_agree c.args.procs.now 0 c.args.entries.now c.args.exits.now h))

pub loop-proc-preserved : goal.loop-proc-preserved
loop-proc-preserved c =
    body_step c.args.procs.now _ c.args.entries.now c.args.exits.now c.loop-proc.proc _ c.if-entries-exits.false c.loop-proc-test.true (c.has_body.ensures.0 c.if-not-has_body.false) c.loop-proc.invariant

pub returns : goal.returns
returns c = bodies_end c.args.procs.now _ c.args.entries.now c.args.exits.now c.loop-proc.proc c.if-entries-exits.false c.loop-proc-test.false c.loop-proc.invariant
