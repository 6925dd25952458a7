use Rattle.proof_form.specs.Lines.{spaced}
use Rattle.proof_form.proofs.WritingLaws.{one_written, all_written}
use Rattle.proof_form.proofs.line_writing.push_numbers.Goals as goal

pub loop-number-preserved : goal.loop-number-preserved
loop-number-preserved c = one_written spaced _ _ _ _ _ _ c.loop-number-test.true c.number-item.is c.in_ok-push_spaced.ensures c.loop-number.invariant

pub returns : goal.returns
returns c = all_written spaced _ _ _ _ c.loop-number-test.false c.loop-number.invariant
