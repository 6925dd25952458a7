use Rattle.std.proofs.Common.{ℕ, List, refl, subst, arith}
use Rattle.nwa_base.specs.declared.letters.Letter.{Letter}
use Rattle.nwa_difference.specs.Covering.{InsideGoesOn}
use Rattle.nwa_difference.proofs.FollowLemmas.{Each}
use Rattle.nwa_difference.proofs.CoverLemmas.{each_none, each_on, each_all}
use Rattle.nwa_difference.proofs.covering.insides_go_on.Goals as goal

pub loop-edge-init : goal.loop-edge-init
loop-edge-init c = each_none c.insides-edge-items.result.now (InsideGoesOn c.args.first.now c.args.second.now c.args.covers.now)

pub loop-edge-preserved : goal.loop-edge-preserved
loop-edge-preserved c =
    each_on c.insides-edge-items.result.now c.loop-edge.edge-index _ (InsideGoesOn c.args.first.now c.args.second.now c.args.covers.now) c.loop-edge-test.true
    c.loop-edge.invariant (c.if-not-inside_goes_on.ensures refl)

pub returns : goal.returns
returns c = λ yes.
    subst (λ (s : List (ℕ × Letter × ℕ)). Each s (InsideGoesOn c.args.first.now c.args.second.now c.args.covers.now)) c.insides-edge-items.ensures
    (each_all c.insides-edge-items.result.now c.loop-edge.edge-index (InsideGoesOn c.args.first.now c.args.second.now c.args.covers.now) (omega arith)
    c.loop-edge.invariant)
