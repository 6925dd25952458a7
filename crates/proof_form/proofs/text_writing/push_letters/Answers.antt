use Rattle.std.proofs.Common.{ap, get_or, ◌++◌, ◌∙◌}
use Rattle.std.proofs.lemmas.List.{get_or_default}
use Rattle.proof_form.specs.Annotations.{ended, coarse_line}
use Rattle.proof_form.proofs.ItemLaws.{ended_plain}
use Rattle.proof_form.proofs.WritingLaws.{all_written, one_written}
use Rattle.proof_form.proofs.text_writing.push_letters.Goals as goal

pub returns : goal.returns
returns c =
    all_written (λ n. ended (coarse_line n)) _ _ _ _ c.loop-letter-test.false c.loop-letter.invariant ∙ ap (λ t. c.args.out.now.items ++ t) (ended_plain coarse_line c.args.coarse.now)

pub loop-letter-preserved : goal.loop-letter-preserved
loop-letter-preserved c =
    let letter = get_or c.args.coarse.now c.loop-letter.letter-index 0 in
    one_written (λ n. ended (coarse_line n)) c.args.coarse.now c.loop-letter.letter-index letter _ _ _ c.loop-letter-test.true
    (get_or_default c.args.coarse.now c.loop-letter.letter-index 0 letter c.loop-letter-test.true) c.in_ok-push_coarse.ensures c.loop-letter.invariant
