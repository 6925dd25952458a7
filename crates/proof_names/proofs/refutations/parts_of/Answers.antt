use Rattle.std.proofs.Common.{sym}
use Rattle.proof_names.specs.Refutations.{named_part}
use Rattle.proof_names.proofs.AllLaws.{found_on}
use Rattle.proof_names.proofs.FoundLaws.{found_start, found_none, found_end}
use Rattle.proof_names.proofs.refutations.parts_of.Goals as goal

pub loop-part-init : goal.loop-part-init
loop-part-init c = found_start named_part c.args.parts.now c.in_ok-named.named.items c.in_ok-named.ensures.items

pub loop-part-preserved : goal.loop-part-preserved
loop-part-preserved c =
    found_on named_part c.args.parts.now c.loop-part.part-index c.loop-part.named.items _ c.part-item.result c.in-Some.part c.loop-part.invariant c.loop-part-test.true c.part-item.is
    (sym c.in-Some.ensures) c.in_ok-push-in-Some.ensures.items

pub returns-in-None : goal.returns-in-None
returns-in-None c =
    found_none named_part c.args.parts.now c.loop-part.part-index c.loop-part.named.items c.part-item.result c.loop-part.invariant c.loop-part-test.true c.part-item.is c.in-None.ensures

pub returns : goal.returns
returns c = found_end named_part c.args.parts.now c.loop-part.part-index c.loop-part.named.items c.loop-part.invariant c.loop-part-test.false
