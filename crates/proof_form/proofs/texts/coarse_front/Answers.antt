use Rattle.std.proofs.Common.{◌≡◌, ◌<◌, ◌^◌, ◌∷◌, arith}
use Rattle.outer_io.specs.Lines.{lines_of}
use Rattle.proof_form.specs.Annotations.{ended, coarse_line}
use Rattle.proof_form.specs.TextOutcomes.{LacksCoarse}
use Rattle.proof_form.proofs.CoarseLaws.{front_begins, front_goes_on, front_ends, taken_shortens}
use Rattle.proof_form.proofs.texts.coarse_front.Goals as goal

pub loop-letters-init : goal.loop-letters-init
loop-letters-init c = front_begins c.args.text.now c.new-letters.result.items c.new-letters.ensures.items

pub loop-letters-preserved : goal.loop-letters-preserved
loop-letters-preserved c =
    let taken : (c.in-Some.letter < 2 ^ 32) × (lines_of c.loop-letters.rest.now ≡ ended (coarse_line c.in-Some.letter) ∷ lines_of c.in-Some.behind.now) = rw c.in-Some.is at c.in_ok-letter.ensures in
    front_goes_on c.args.text.now c.loop-letters.letters.items c.push.new.self.items c.loop-letters.rest.now c.in-Some.behind.now c.in-Some.letter c.in_ok-push.ensures.items taken.0 taken.1 c.loop-letters.invariant

pub loop-letters-smaller : goal.loop-letters-smaller
loop-letters-smaller c =
    let taken : (c.in-Some.letter < 2 ^ 32) × (lines_of c.loop-letters.rest.now ≡ ended (coarse_line c.in-Some.letter) ∷ lines_of c.in-Some.behind.now) = rw c.in-Some.is at c.in_ok-letter.ensures in
    let shorter = taken_shortens c.loop-letters.rest.now (coarse_line c.in-Some.letter) c.in-Some.behind.now taken.1 in omega (arith, shorter)

pub returns : goal.returns
returns c =
    let last : LacksCoarse (lines_of c.loop-letters.rest.now) = rw c.in_default.is at c.in_ok-letter.ensures in
    front_ends c.args.text.now c.loop-letters.letters.items c.loop-letters.rest.now c.loop-letters.invariant last
