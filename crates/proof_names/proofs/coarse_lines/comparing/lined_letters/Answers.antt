use Rattle.std.proofs.Common.{nat_eq, take, get_or, ap, ◌∙◌}
use Rattle.std.specs.List.{list_any}
use Rattle.std.proofs.lemmas.List.{take_more, take_all}
use Rattle.proof_names.proofs.CoarseLines.MarkLaws.{lined_begins, letter_is_done}
use Rattle.proof_names.proofs.coarse_lines.comparing.lined_letters.Goals as goal

pub loop-letter-init : goal.loop-letter-init
loop-letter-init c = lined_begins c.in_ok-lined.lined.items c.args.count c.in_ok-lined.ensures

pub loop-letter-preserved : goal.loop-letter-preserved
loop-letter-preserved c =
    letter_is_done c.loop-letter.lined.items c.mark.new.lined.items c.args.count (take c.loop-letter.letter-index c.args.coarse.now) _ (get_or c.args.coarse.now c.loop-letter.letter-index 0)
    (take_more c.args.coarse.now c.loop-letter.letter-index 0 c.loop-letter-test.true) c.mark.ensures c.loop-letter.invariant

pub returns : goal.returns
returns c = record {
  size = c.loop-letter.invariant.size;
  marks = λ n l. c.loop-letter.invariant.marks n l ∙ ap (λ ns. list_any (nat_eq n) ns) (take_all c.loop-letter.letter-index c.args.coarse.now c.loop-letter-test.false);
}
