use Rattle.std.proofs.Common.{◌∙◌, ◌+◌, true, false}
use Rattle.automizer_top.proofs.PartLines.{slice_line, line_within, slice_test, rest_of, passed_more, passed_end}
use Rattle.automizer_top.proofs.part_texts.front_of.Goals as goal

pub returns-then-eq-clause-own : goal.returns-then-eq-clause-own
returns-then-eq-clause-own c =
    let within = c.loop-at.invariant.within in
    let f = slice_line c.args.text.now c.loop-at.at c.first_line.result within (record { line = c.first_line.ensures.line; within = c.first_line.ensures.within; some = c.first_line.ensures.some }) in
    (passed_end c.args.text.now c.loop-at.at c.loop-at.lines c.first_line.result c.loop-at.invariant f
    (slice_test c.args.text.now c.as_slice.result.now c.loop-at.at c.first_line.result c.eq.result true c.eq.ensures c.if-eq.true c.as_slice.ensures)
    (line_within c.args.text.now c.loop-at.at c.first_line.result within f)).own

pub returns-then-eq-clause-rest : goal.returns-then-eq-clause-rest
returns-then-eq-clause-rest c =
    let within = c.loop-at.invariant.within in
    let f = slice_line c.args.text.now c.loop-at.at c.first_line.result within (record { line = c.first_line.ensures.line; within = c.first_line.ensures.within; some = c.first_line.ensures.some }) in
    let l = line_within c.args.text.now c.loop-at.at c.first_line.result within f in
    rest_of c.args.text.now (c.loop-at.at + c.first_line.result) l
    ∙ (passed_end c.args.text.now c.loop-at.at c.loop-at.lines c.first_line.result c.loop-at.invariant f
    (slice_test c.args.text.now c.as_slice.result.now c.loop-at.at c.first_line.result c.eq.result true c.eq.ensures c.if-eq.true c.as_slice.ensures) l).rest

pub loop-at-preserved : goal.loop-at-preserved
loop-at-preserved c =
    let within = c.loop-at.invariant.within in
    let f = slice_line c.args.text.now c.loop-at.at c.first_line.result within (record { line = c.first_line.ensures.line; within = c.first_line.ensures.within; some = c.first_line.ensures.some }) in
    passed_more c.args.text.now c.loop-at.at c.loop-at.lines c.first_line.result c.loop-at.invariant f
    (slice_test c.args.text.now c.as_slice.result.now c.loop-at.at c.first_line.result c.eq.result false c.eq.ensures c.if-eq.false c.as_slice.ensures)
    (line_within c.args.text.now c.loop-at.at c.first_line.result within f)
