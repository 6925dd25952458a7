use Rattle.std.proofs.Common.{◌≤◌, refl, arith}
use Rattle.nwa_difference.proofs.CoverLemmas.{returns_more, returns_whole}
use Rattle.nwa_difference.proofs.returning.returns_from_each.Goals as goal

pub loop-before-init : goal.loop-before-init
loop-before-init c = λ k j l m. absurd (omega arith)

pub loop-before-preserved : goal.loop-before-preserved
loop-before-preserved c =
    returns_more c.args.second.now c.args.call c.args.state c.loop-before.before c.args.letter c.args.end c.loop-before.invariant
    (c.if-not-returns_from.ensures refl)

pub returns : goal.returns
returns c = λ yes.
    let i : c.args.second.now.states ≤ c.loop-before.before = let v = c.states-before-end.ensures.value in let t = c.loop-before-test.false in omega arith in
    returns_whole c.args.second.now c.args.call c.args.state c.loop-before.before c.args.letter c.args.end c.requires i c.loop-before.invariant
