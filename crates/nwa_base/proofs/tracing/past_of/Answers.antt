use Rattle.std.proofs.Common.{◌∙◌, ◌∷◌, [], refl}
use Rattle.nwa_base.proofs.ReadingLemmas.{reading_stops}
use Rattle.nwa_base.proofs.TracingLemmas.{part_read_start, part_read_goes, part_read_ends}
use Rattle.nwa_base.proofs.tracing.past_of.Goals as goal

pub loop-letter-init : goal.loop-letter-init
loop-letter-init c =
    let i = c.start.ensures in
    let j = c.start-2.ensures in
    part_read_start _ _ _ _ _ (c.in_ok-here.ensures.items ∙ (λ n. (i n, j n) ∷ [])) c.new-saved.ensures.items c.new-steps.ensures.items

pub loop-letter-preserved : goal.loop-letter-preserved
loop-letter-preserved c =
    part_read_goes _ _ c.loop-letter.letter-index _ _ _ c.in-Some.step _ _ c.loop-letter-test.true c.loop-letter.invariant
    (rw c.in-Some.is at c.in_ok-next.ensures) c.in_ok-push.ensures.items

pub returns-in_default : goal.returns-in_default
returns-in_default c =
    reading_stops _ _ c.loop-letter.letter-index _ _ _ c.loop-letter-test.true refl c.loop-letter.invariant.reading
    (rw c.in_default.is at c.in_ok-next.ensures)

pub returns : goal.returns
returns c = part_read_ends _ _ c.loop-letter.letter-index _ _ _ c.loop-letter-test.false c.loop-letter.invariant
