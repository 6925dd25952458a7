use Rattle.automizer_top.proofs.PartLines.{open_next, line_ends_at, line_is_whole}
use Rattle.automizer_top.proofs.part_texts.first_line.Goals as goal

pub loop-place-preserved : goal.loop-place-preserved
loop-place-preserved c = open_next c.args.text.now c.loop-place.place c.loop-place-test.true c.if-byte-eq10.false c.loop-place.invariant

pub returns-then-byte-eq10-clause-line : goal.returns-then-byte-eq10-clause-line
returns-then-byte-eq10-clause-line c = (line_ends_at c.args.text.now c.loop-place.place c.loop-place-test.true c.if-byte-eq10.true c.loop-place.invariant).line

pub returns-clause-line : goal.returns-clause-line
returns-clause-line c = (line_is_whole c.args.text.now c.loop-place.place c.requires c.loop-place-test.false c.loop-place.invariant).line

pub returns-clause-some : goal.returns-clause-some
returns-clause-some c = (line_is_whole c.args.text.now c.loop-place.place c.requires c.loop-place-test.false c.loop-place.invariant).some
