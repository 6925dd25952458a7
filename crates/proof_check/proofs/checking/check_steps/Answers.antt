use Rattle.proof_check.proofs.ExistLaws.{all_exist}
use Rattle.proof_check.proofs.checking.check_steps.Goals as goal

pub first_bad_step-requires : goal.first_bad_step-requires
first_bad_step-requires c = all_exist c.args.icfg.now c.args.proof.now c.args.plan.now c.requires
