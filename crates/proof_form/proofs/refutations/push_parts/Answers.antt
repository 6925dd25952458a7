use Rattle.proof_form.specs.Refutations.{part_text}
use Rattle.proof_form.proofs.WritingLaws.{one_written, all_written}
use Rattle.proof_form.proofs.refutations.push_parts.Goals as goal

pub loop-part-preserved : goal.loop-part-preserved
loop-part-preserved c = one_written part_text _ _ _ _ _ _ c.loop-part-test.true c.part-item.is c.in_ok-push_part.ensures c.loop-part.invariant

pub returns : goal.returns
returns c = all_written part_text _ _ _ _ c.loop-part-test.false c.loop-part.invariant
