use Rattle.std.proofs.Common.{◌≡◌, ◌∙◌, sym, length, arith}
use Rattle.boogie_types.proofs.ImplementationLaws.{rests_agree}
use Rattle.boogie_types.proofs.implementations.same_variables.Goals as goal

pub returns : goal.returns
returns c =
    let e : c.loop-number.number ≡ length c.args.these.now = omega arith in
    sym (rests_agree c.args.these.now c.args.others.now c.loop-number.number e c.loop-number.invariant.within) ∙ c.loop-number.invariant.same
