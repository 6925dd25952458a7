use Rattle.proof_form.proofs.StandingLaws.{line_begins, line_goes_on, line_ends, no_line_ends}
use Rattle.proof_form.proofs.text_lines.first_line.Goals as goal

pub loop-i-init : goal.loop-i-init
loop-i-init c = line_begins c.args.text.now

pub loop-i-preserved : goal.loop-i-preserved
loop-i-preserved c = line_goes_on c.args.text.now c.loop-i.i c.loop-i-test.true c.if-byte-eq10.false c.loop-i.invariant

pub returns-then-byte-eq10 : goal.returns-then-byte-eq10
returns-then-byte-eq10 c = line_ends c.args.text.now c.loop-i.i c.loop-i-test.true c.if-byte-eq10.true c.loop-i.invariant

pub returns : goal.returns
returns c = no_line_ends c.args.text.now c.loop-i.i c.loop-i-test.false c.loop-i.invariant
