use Rattle.std.proofs.Common.{false, get_or, refl, sym, ◌∙◌}
use Rattle.proof_names.proofs.CoarseLines.MarkLaws.{line_is_not_greater, line_is_not_told, line_is_right, lines_end}
use Rattle.proof_names.proofs.coarse_lines.comparing.first_wrong.Goals as goal

pub loop-place-init : goal.loop-place-init
loop-place-init c = refl

pub loop-place-preserved : goal.loop-place-preserved
loop-place-preserved c =
    line_is_right (λ n. get_or c.args.marks.now n false) c.args.coarse.now c.loop-place.low c.loop-place.place c.from-letter.result _ c.loop-place-test.true c.from-letter.ensures c.if-letter-low.false
    (sym c.is_marked.ensures ∙ c.if-not-is_marked.false) c.loop-place.invariant

pub returns-then-letter-low : goal.returns-then-letter-low
returns-then-letter-low c =
    line_is_not_greater (λ n. get_or c.args.marks.now n false) c.args.coarse.now c.loop-place.low c.loop-place.place c.from-letter.result _ c.loop-place-test.true c.from-letter.ensures c.if-letter-low.true c.loop-place.invariant

pub returns-then-not-is_marked : goal.returns-then-not-is_marked
returns-then-not-is_marked c =
    line_is_not_told (λ n. get_or c.args.marks.now n false) c.args.coarse.now c.loop-place.low c.loop-place.place c.from-letter.result _ c.loop-place-test.true c.from-letter.ensures
    (sym c.is_marked.ensures ∙ c.if-not-is_marked.true) c.loop-place.invariant

pub returns : goal.returns
returns c = lines_end (λ n. get_or c.args.marks.now n false) c.args.coarse.now c.loop-place.low c.loop-place.place _ c.loop-place-test.false c.loop-place.invariant
