use Rattle.std.proofs.Common.{arith}
use Rattle.proof_check.specs.Steps.{IsSound}
use Rattle.proof_check.proofs.FirstLaws.{first_none}
use Rattle.proof_check.proofs.ListLaws.{member_at}
use Rattle.proof_check.proofs.sound.first_bad_step.Goals as goal

pub is_sound-requires : goal.is_sound-requires
is_sound-requires c = c.requires c.step.result (member_at c.args.plan.now.steps c.loop-k.k c.step.result c.step.ensures)

pub returns : goal.returns
returns c =
    first_none (λ k t. IsSound c.args.icfg.now c.args.plan.now t) c.args.plan.now.steps c.loop-k.k c.loop-k.invariant
    (let n = c.step_count-k-end.ensures in let l = c.loop-k-test.false in omega (arith, n, l))
