use Rattle.proof_build.proofs.ListLaws.{taken_next}
use Rattle.std.proofs.Common.{◌∙◌}
use Rattle.std.proofs.lemmas.List.{take_all}
use Rattle.proof_build.proofs.spots.widened.Goals as goal

pub loop-number-preserved : goal.loop-number-preserved
loop-number-preserved c =
    taken_next c.args.numbers.now c.loop-number.number-index 0 c.loop-number.wide.items c.push.new.self.items c.loop-number-test.true
    c.loop-number.invariant c.in_ok-push.ensures.items

pub returns : goal.returns
returns c = c.loop-number.invariant ∙ take_all c.loop-number.number-index c.args.numbers.now c.loop-number-test.false
