use Rattle.std.proofs.Common.{refl, arith}
use Rattle.nwa_difference.specs.Covering.{cover_in}
use Rattle.nwa_difference.proofs.CoverLemmas.{FinalIsCovered, each_none, each_on, each_all}
use Rattle.nwa_difference.proofs.covering.finals_are_covered.Goals as goal

pub loop-state-init : goal.loop-state-init
loop-state-init c = each_none c.args.finals.now (FinalIsCovered c.args.second.now (cover_in c.args.covers.now))

pub loop-state-preserved : goal.loop-state-preserved
loop-state-preserved c =
    each_on c.args.finals.now c.loop-state.state-index _ (FinalIsCovered c.args.second.now (cover_in c.args.covers.now)) c.loop-state-test.true
    c.loop-state.invariant (c.if-not-final_is_covered.ensures refl)

pub returns : goal.returns
returns c = λ yes.
    each_all c.args.finals.now c.loop-state.state-index (FinalIsCovered c.args.second.now (cover_in c.args.covers.now)) (omega arith) c.loop-state.invariant
