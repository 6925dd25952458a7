use Rattle.proof_check.proofs.refuting.is_shown.Goals as goal

pub returns-in-Some : goal.returns-in-Some
returns-in-Some c = rw c.in-Some.is c.is_refuted.ensures
